-- A hand apart from a table, and the table with the hand scattered over it. Assumes nothing.
use Rattle.std.specs.Prelude.{◌≡◌, length, get_or}
use Rattle.std.proofs.Math.Path.{refl, ap}
use Rattle.std.proofs.Common.{sym, subst, ◌∙◌, arith, not-suc-le-zero, le_of_suc-le-suc, length-set}
use mathlib.Core.List.{List, [], ◌∷◌}
use Prim.Native.Nat.{ℕ, zero, suc, ◌+◌, ◌<◌, ◌≤◌}
use Rattle.std.proofs.Math.ListN.{set}
use Rattle.std.proofs.Math.Seq.{get_or-set_same, get_or-set_other, set-set, set_comm}
use Rattle.window.specs.declared.Record.{Record}
use Rattle.window.specs.Record.{blank}
use Rattle.table.specs.View.{Row, slot_at, it_at, put, put_note, slots, its, scatter}

-- record r of a table is free
abbrev pub Free : List Record → ℕ → Type 0
Free t r = (get_or t r blank).in_use ≡ 0

-- from record q on, below k: the slots of the hand rise, and every record of the table that is at none of them is free
pub data Apart (t : List Record) (k : ℕ) : ℕ → List Row → Type 0 where
  done : Apart t k k []
  free : {q : ℕ} {hs : List Row} → Free t q → Apart t k (suc q) hs → Apart t k q hs
  held : {q : ℕ} (hs : List Row) (c : ℕ) (v : Record) → Apart t k (suc q) hs → Apart t k q (record { slot = q; note = c; it = v } ∷ hs)

-- every slot is below k
abbrev pub Within : ℕ → List Row → Type 0
Within k hs = (i : ℕ) → i < length hs → slot_at hs i < k

-- a scattered table is as long as before
pub length-scatter : (hs : List Row) (t : List Record) → length (scatter hs t) ≡ length t
unfolding scatter
length-scatter [] t = refl
length-scatter (h ∷ hs) t = length-set (scatter hs t) h.slot h.it ∙ length-scatter hs t

module _ {t : List Record} {k : ℕ} where
  -- it ends at k
  pub ends : {q : ℕ} {hs : List Row} → Apart t k q hs → q ≤ k
  ends done = omega arith
  ends (free f d) = let h = ends d in omega arith
  ends (held hs c v d) = let h = ends d in omega arith

  -- a slot lies from q on and below k
  pub least : {q : ℕ} {hs : List Row} → Apart t k q hs → (i : ℕ) → i < length hs → (q ≤ slot_at hs i) × (slot_at hs i < k)
  least done i l = absurd (not-suc-le-zero l)
  least (free f d) i l = let e = least d i l in (omega arith, e.1)
  least (held hs c v d) zero l = (omega arith, omega (arith, ends d))
  least (held hs c v d) (suc i) l = let e = least d i (le_of_suc-le-suc l) in (omega arith, e.1)

  -- every slot of a hand that is apart is below k
  pub within : {hs : List Row} → Apart t k 0 hs → Within k hs
  within d i l = (least d i l).1

  -- there are no more rows than records from q on
  pub apart-length : {q : ℕ} {hs : List Row} → Apart t k q hs → q + length hs ≤ k
  apart-length done = omega arith
  apart-length (free f d) = let h = apart-length d in omega arith
  apart-length (held hs c v d) = let h = apart-length d in omega arith

  -- what lies before q stays
  low : {q : ℕ} {hs : List Row} → Apart t k q hs → (r : ℕ) → r < q → get_or (scatter hs t) r blank ≡ get_or t r blank
  unfolding scatter
  low done r l = refl
  low (free f d) r l = low d r (omega arith)
  low {q} (held hs c v d) r l = get_or-set_other (scatter hs t) q r v blank (λ e. omega arith) ∙ low d r (omega arith)

  -- and it may be written without harm
  low-set : {q : ℕ} {hs : List Row} → Apart t k q hs → (s : ℕ) (v : Record) → s < q → Apart (set t s v) k q hs
  low-set done s v l = done
  low-set {q} (free f d) s v l = free (ap (λ (r : Record). r.in_use) (get_or-set_other t s q v blank (λ e. omega arith)) ∙ f) (low-set d s v (omega arith))
  low-set (held hs c w d) s v l = held _ c w (low-set d s v (omega arith))

  -- row i is read in the table
  pub get-scatter : {q : ℕ} {hs : List Row} → Apart t k q hs → k ≤ length t → (i : ℕ) → i < length hs → get_or (scatter hs t) (slot_at hs i) blank ≡ it_at hs i
  unfolding scatter
  get-scatter done n i l = absurd (not-suc-le-zero l)
  get-scatter (free f d) n i l = get-scatter d n i l
  get-scatter {q} (held hs c v d) n zero l = get_or-set_same (scatter hs t) q v blank (omega (arith, length-scatter hs t, ends d))
  get-scatter {q} (held hs c v d) n (suc i) l =
      let b = least d i (le_of_suc-le-suc l) in
      get_or-set_other (scatter hs t) q (slot_at hs i) v blank (λ e. omega arith) ∙ get-scatter d n i (le_of_suc-le-suc l)

  -- row i is written in the table
  pub set-scatter : {q : ℕ} {hs : List Row} → Apart t k q hs → (i : ℕ) (v : Record) → i < length hs → set (scatter hs t) (slot_at hs i) v ≡ scatter (put hs i v) t
  unfolding scatter
  set-scatter done i v l = absurd (not-suc-le-zero l)
  set-scatter (free f d) i v l = set-scatter d i v l
  set-scatter {q} (held hs c w d) zero v l = set-set (scatter hs t) q w v
  set-scatter {q} (held hs c w d) (suc i) v l =
      let b = least d i (le_of_suc-le-suc l) in
      set_comm (scatter hs t) q (slot_at hs i) w v (λ e. omega arith) ∙ ap (λ (u : List Record). set u q w) (set-scatter d i v (le_of_suc-le-suc l))

-- the scattered table is apart from the hand too
pub apart-scatter : {t : List Record} {k q : ℕ} {hs : List Row} → Apart t k q hs → Apart (scatter hs t) k q hs
unfolding scatter
apart-scatter done = done
apart-scatter {t} {k} {q} (free f d) = free (ap (λ (r : Record). r.in_use) (low d q (omega arith)) ∙ f) (apart-scatter d)
apart-scatter {t} {k} {q} (held hs c v d) = held _ c v (low-set (apart-scatter d) q v (omega arith))

-- a written row keeps its slot
pub slots-put : (hs : List Row) (i : ℕ) (v : Record) → slots (put hs i v) ≡ slots hs
unfolding slots
slots-put [] i v = refl
slots-put (h ∷ hs) zero v = refl
slots-put (h ∷ hs) (suc i) v = ap (λ (ss : List ℕ). h.slot ∷ ss) (slots-put hs i v)

-- a written note keeps the slot
pub slots-put_note : (hs : List Row) (i n : ℕ) → slots (put_note hs i n) ≡ slots hs
unfolding slots
slots-put_note [] i n = refl
slots-put_note (h ∷ hs) zero n = refl
slots-put_note (h ∷ hs) (suc i) n = ap (λ (ss : List ℕ). h.slot ∷ ss) (slots-put_note hs i n)

-- a written note keeps the record
pub its-put_note : (hs : List Row) (i n : ℕ) → its (put_note hs i n) ≡ its hs
unfolding its
its-put_note [] i n = refl
its-put_note (h ∷ hs) zero n = refl
its-put_note (h ∷ hs) (suc i) n = ap (λ (vs : List Record). h.it ∷ vs) (its-put_note hs i n)

-- a written row has its record among the records
pub its-put : (hs : List Row) (i : ℕ) (v : Record) → its (put hs i v) ≡ set (its hs) i v
unfolding its
its-put [] i v = refl
its-put (h ∷ hs) zero v = refl
its-put (h ∷ hs) (suc i) v = ap (λ (vs : List Record). h.it ∷ vs) (its-put hs i v)

-- there are as many slots as rows
pub length-slots : (hs : List Row) → length (slots hs) ≡ length hs
unfolding slots
length-slots [] = refl
length-slots (h ∷ hs) = ap suc (length-slots hs)

-- hands with the same slots are as long
pub same_length : (hs gs : List Row) → slots gs ≡ slots hs → length gs ≡ length hs
same_length hs gs e = sym (length-slots gs) ∙ ap length e ∙ length-slots hs

-- the record of row i is record i of the records
pub it-is : (hs : List Row) (i : ℕ) → it_at hs i ≡ get_or (its hs) i blank
unfolding its
it-is [] i = refl
it-is (h ∷ hs) zero = refl
it-is (h ∷ hs) (suc i) = it-is hs i

-- an empty list is no other
nil-cons : {n : ℕ} {ns : List ℕ} → ◌≡◌ {A = List ℕ} [] (n ∷ ns) → ⊥
nil-cons p = let z : ◌≡◌ {A = ℕ} 0 1 = cc in omega arith

-- equal lists begin alike
cons_head : {A : Type 0} {m n : A} {ms ns : List A} → ◌≡◌ {A = List A} (m ∷ ms) (n ∷ ns) → m ≡ n
cons_head p = cc

-- equal lists go on alike
cons_tail : {A : Type 0} {m n : A} {ms ns : List A} → ◌≡◌ {A = List A} (m ∷ ms) (n ∷ ns) → ms ≡ ns
cons_tail p = cc

-- of hands with the same slots both are apart
pub same-apart : {t : List Record} {k q : ℕ} {hs : List Row} → Apart t k q hs → (gs : List Row) → slots gs ≡ slots hs → Apart t k q gs
unfolding slots
same-apart done [] e = done
same-apart done (g ∷ gs) e = absurd (nil-cons (sym e))
same-apart (free f d) gs e = free f (same-apart d gs e)
same-apart (held hs c v d) [] e = absurd (nil-cons e)
same-apart {t} {k} {q} (held hs c v d) (g ∷ gs) e = subst (λ (s : ℕ). Apart t k q (record { slot = s; note = g.note; it = g.it } ∷ gs)) (sym (cons_head e)) (held gs g.note g.it (same-apart d gs (cons_tail e)))

-- of hands with the same slots each row has the same slot
pub same-slot : (hs gs : List Row) → slots gs ≡ slots hs → (i : ℕ) → slot_at gs i ≡ slot_at hs i
unfolding slots
same-slot [] [] e i = refl
same-slot [] (g ∷ gs) e i = absurd (nil-cons (sym e))
same-slot (h ∷ hs) [] e i = absurd (nil-cons e)
same-slot (h ∷ hs) (g ∷ gs) e zero = cons_head e
same-slot (h ∷ hs) (g ∷ gs) e (suc i) = same-slot hs gs (cons_tail e) i

-- a hand that is apart from a table with k records at least
pub record Fits (t : List Record) (k : ℕ) (hs : List Row) : Type 0 where
  pub apart : Apart t k 0 hs
  pub enough : k ≤ length t

-- of hands with the same slots both fit
pub same-fits : {t : List Record} {k : ℕ} {hs : List Row} → Fits t k hs → (gs : List Row) → slots gs ≡ slots hs → Fits t k gs
same-fits f gs e = record { apart = same-apart f.apart gs e; enough = f.enough }

-- a hand with another record in a row fits
pub put-fits : {t : List Record} {k : ℕ} {hs : List Row} → Fits t k hs → (i : ℕ) (v : Record) → Fits t k (put hs i v)
put-fits {t} {k} {hs} f i v = same-fits f (put hs i v) (slots-put hs i v)

-- two hands that differ in notes at most
pub record Alike (hs gs : List Row) : Type 0 where
  pub same-slots : slots hs ≡ slots gs
  pub same-its : its hs ≡ its gs

-- a hand is like itself
pub alike_refl : (hs : List Row) → Alike hs hs
alike_refl hs = record { same-slots = refl; same-its = refl }

-- likeness goes both ways
pub alike_sym : {hs gs : List Row} → Alike hs gs → Alike gs hs
alike_sym a = record { same-slots = sym a.same-slots; same-its = sym a.same-its }

-- likeness goes on
pub alike_trans : {hs gs fs : List Row} → Alike hs gs → Alike gs fs → Alike hs fs
alike_trans a b = record { same-slots = a.same-slots ∙ b.same-slots; same-its = a.same-its ∙ b.same-its }

-- a hand with another note is like the hand
pub alike-note : (hs : List Row) (i n : ℕ) → Alike (put_note hs i n) hs
alike-note hs i n = record { same-slots = slots-put_note hs i n; same-its = its-put_note hs i n }

-- hands that are alike stay so where each gets the same record
pub alike-put : {hs gs : List Row} → Alike hs gs → (i : ℕ) (v : Record) → Alike (put hs i v) (put gs i v)
alike-put {hs} {gs} a i v = record { same-slots = slots-put hs i v ∙ a.same-slots ∙ sym (slots-put gs i v); same-its = its-put hs i v ∙ ap (λ (vs : List Record). set vs i v) a.same-its ∙ sym (its-put gs i v) }

-- hands that are alike are as long
pub alike-length : {hs gs : List Row} → Alike hs gs → length hs ≡ length gs
alike-length {hs} {gs} a = same_length gs hs a.same-slots

-- and have the same slot in each row
pub alike-slot : {hs gs : List Row} → Alike hs gs → (i : ℕ) → slot_at hs i ≡ slot_at gs i
alike-slot {hs} {gs} a i = same-slot gs hs a.same-slots i

-- and the same record in each row
pub alike-it : {hs gs : List Row} → Alike hs gs → (i : ℕ) → it_at hs i ≡ it_at gs i
alike-it {hs} {gs} a i = it-is hs i ∙ ap (λ (vs : List Record). get_or vs i blank) a.same-its ∙ sym (it-is gs i)

-- hands with the same slots and records are scattered alike
same-scatter : (hs gs : List Row) → slots hs ≡ slots gs → its hs ≡ its gs → (t : List Record) → scatter hs t ≡ scatter gs t
unfolding slots its scatter
same-scatter [] [] e f t = refl
same-scatter [] (g ∷ gs) e f t = absurd (nil-cons e)
same-scatter (h ∷ hs) [] e f t = absurd (nil-cons (sym e))
same-scatter (h ∷ hs) (g ∷ gs) e f t = rw (same-scatter hs gs (cons_tail e) (cons_tail f) t, cons_head e, cons_head f)

-- and so are hands that are alike
pub alike-scatter : {hs gs : List Row} → Alike hs gs → (t : List Record) → scatter hs t ≡ scatter gs t
alike-scatter {hs} {gs} a t = same-scatter hs gs a.same-slots a.same-its t

-- of hands that are alike both fit
pub alike-fits : {t : List Record} {k : ℕ} {hs gs : List Row} → Alike hs gs → Fits t k gs → Fits t k hs
alike-fits {t} {k} {hs} {gs} a f = same-fits f hs a.same-slots
