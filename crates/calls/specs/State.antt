-- What a call works on, and the single changes that it makes (01, "Taking a packet in").
use Rattle.std.specs.Prelude.{Bool, cond, List, ℕ, zero, suc, ◌+◌, ◌*◌, ◌-◌, set, replicate}
use Rattle.std.proofs.Math.Seq.{paste}
use Rattle.window.specs.declared.Record.{Record}
use Rattle.window.specs.declared.Window.{Window}
use Rattle.window.specs.Record.{blank}
use Rattle.window.specs.Store.{Store}
use Rattle.calls.specs.Content.{Content, Recovery, content_over, fits}

-- the window value, the store, how many packets this call has rebuilt, and how many parity packets it found spoilt
pub record State : Type 0 where
  pub window : Window
  pub store : Store
  pub rebuilt : ℕ
  pub spoilt : ℕ

-- a state of its four parts
abbrev pub scene : Window → Store → (rebuilt spoilt : ℕ) → State
scene w s rebuilt spoilt = record { window = w; store = s; rebuilt = rebuilt; spoilt = spoilt }

-- the window value with other counts
abbrev pub recount : Window → (present used : ℕ) → Window
recount w present used =
    record { base = w.base; ssrc = w.ssrc; l = w.l; d = w.d; p = w.p; n = w.n; k = w.k; present = present; in_use = used }

-- a packet becomes present at a position
abbrev pub put : Window → Store → (i : ℕ) → Content → Store
put w s i c =
    record {
      media = paste s.media (i * w.p) c.payload w.p;
      timestamps = set s.timestamps i c.timestamp;
      lengths = set s.lengths i c.length;
      marks = set s.marks i 1;
      parity = s.parity;
      records = s.records;
    }

-- a record and its payload are written
abbrev pub put_record : Window → Store → (r : ℕ) → Record → (payload : List ℕ) → Store
put_record w s r v payload =
    record {
      media = s.media;
      timestamps = s.timestamps;
      lengths = s.lengths;
      marks = s.marks;
      parity = paste s.parity (r * w.p) payload w.p;
      records = set s.records r v;
    }

-- the media packet of a position is stored
abbrev pub store_media : (i : ℕ) → Content → State → State
store_media i c x =
    record {
      window = recount x.window (x.window.present + 1) x.window.in_use;
      store = put x.window x.store i c;
      rebuilt = x.rebuilt;
      spoilt = x.spoilt;
    }

-- the one missing packet of a group is rebuilt: the exclusive-or of the recovery and of what is held of the group
unfoldable pub rebuild : (group : List ℕ) → (recovery : Content) → (i : ℕ) → State → State
rebuild group recovery i x =
    record {
      window = recount x.window (x.window.present + 1) x.window.in_use;
      store = put x.window x.store i (content_over x.window x.store group recovery);
      rebuilt = x.rebuilt + 1;
      spoilt = x.spoilt;
    }

-- what a parity packet gives for the one missing packet of its group fits it: it is not spoilt
abbrev pub fits_over : State → (group : List ℕ) → Recovery → Bool
fits_over x group recovery = fits x.window recovery (content_over x.window x.store group recovery.content)

-- one spoilt parity packet more; the packet that it was to rebuild stays missing
abbrev pub count_spoilt : State → State
count_spoilt x = scene x.window x.store x.rebuilt (x.spoilt + 1)

-- the record of a parity packet in hand
abbrev pub held_record : (stream snbase : ℕ) → Recovery → Record
held_record stream snbase recovery =
    record {
      stream = stream;
      in_use = 1;
      snbase = snbase;
      timestamp_recovery = recovery.content.timestamp;
      length_recovery = recovery.content.length;
      payload_length = recovery.size;
    }

-- a parity packet goes into a free record
abbrev pub hold : (r stream snbase : ℕ) → Recovery → State → State
hold r stream snbase recovery x =
    record {
      window = recount x.window x.window.present (x.window.in_use + 1);
      store = put_record x.window x.store r (held_record stream snbase recovery) recovery.content.payload;
      rebuilt = x.rebuilt;
      spoilt = x.spoilt;
    }

-- a record and its payload are set to zero
abbrev pub release : (r : ℕ) → State → State
release r x =
    record {
      window = recount x.window x.window.present (x.window.in_use - 1);
      store = put_record x.window x.store r blank (replicate x.window.p 0);
      rebuilt = x.rebuilt;
      spoilt = x.spoilt;
    }

-- a record is released if a test holds of it
abbrev pub release_if : (test : State → ℕ → Bool) → (r : ℕ) → State → State
release_if test r x = cond (test x r) (release r x) x

-- each of the first m records is
abbrev pub release_below : (test : State → ℕ → Bool) → (m : ℕ) → State → State
release_below test zero x = x
release_below test (suc r) x = release_if test r (release_below test r x)
