-- Rebuilding by parity checks: what a receiver is offered, what that determines (Known, Stopping), what a receiver may do
-- with it (Take, Step, in any order: Runs), and what stays true as it does so (Sound, Inv). No engine and no bytes: K names
-- the checks, C is what a check carries, X is a packet.
use Rattle.std.specs.Prelude.{◌≡◌, ◌≢◌, ◌⊎◌, Bool, true, false, ℕ}
use Rattle.std.proofs.Math.Option.{Option, none, some}
use mathlib.Core.List.{List, [], ◌∷◌, ◌++◌, Memᴰ}
use Rattle.xor.specs.Laws.{Xor}
use Rattle.peel.specs.Group.{total, count, None}

-- ---- codes, offers and receivers

-- a parity code: which positions a check covers, which packet it carries (sent unaltered, the xor of theirs), whether a rebuilt packet fits
-- it, and the xor of packets with its laws
pub record Code (K C X : Type 0) : Type 0 where
  pub group : K → List ℕ
  pub value : C → X
  pub fits : C → X → Bool
  pub xor : X → X → X
  pub zeros : X
  pub laws : Xor xor zeros

-- the xor of packets over a list of positions
abbrev pub sum : {K C X : Type 0} → Code K C X → (ℕ → X) → List ℕ → X
sum P f g = total P.xor P.zeros f g

-- a received packet: media at a position, or a check (a parity packet) with its identity and what it carries
pub data Offer (K C X : Type 0) : Type 0 where
  media : ℕ → X → Offer K C X
  check : K → C → Offer K C X

-- what was received: any set
abbrev pub Set : Type 0 → Type 1
Set A = A → Type 0

-- a set and what stands in a list
abbrev pub Plus : {A : Type 0} → Set A → List A → Set A
Plus R os p = R p ⊎ Memᴰ p os

-- one set lies in another
abbrev pub Within : {A : Type 0} → Set A → Set A → Type 0
Within {A} R Q = (p : A) → R p → Q p

-- each packet of one set is in the other, whatever it carries there
pub record Covered {K C X : Type 0} (R Q : Set (Offer K C X)) : Type 0 where
  pub of_media : (i : ℕ) (x : X) → R (media i x) → (y : X) × Q (media i y)
  pub of_check : (k : K) (v : C) → R (check k v) → (u : C) × Q (check k u)

-- a receiver: the slot of each position, none while its packet is missing, and the checks in hand
pub record View (K C X : Type 0) : Type 1 where
  pub slot : ℕ → Option X
  pub held : K → C → Type 0

-- whether a slot is empty
abbrev pub gone : {X : Type 0} → Option X → Bool
gone none = true
gone (some x) = false

-- whether the packet of a position is missing
abbrev pub miss : {K C X : Type 0} → View K C X → ℕ → Bool
miss s i = gone (s.slot i)

-- what a receiver has, counted as received
abbrev pub Has : {K C X : Type 0} → View K C X → Set (Offer K C X)
Has s (media i x) = s.slot i ≡ some x
Has s (check k v) = s.held k v

-- a receiver loses no packet
abbrev pub Keeps : {K C X : Type 0} → View K C X → View K C X → Type 0
Keeps {X = X} s t = (i : ℕ) (x : X) → s.slot i ≡ some x → t.slot i ≡ some x

module _ {K C X : Type 0} (P : Code K C X) where
  -- ---- what a receiver may do

  -- no member of the check is missing
  abbrev pub Full : View K C X → K → Type 0
  Full s k = None (miss s) (P.group k)

  -- a receiver lets go of a check only when no member of it is missing
  abbrev pub Releases : View K C X → View K C X → Type 0
  Releases s t = (k : K) (v : C) → s.held k v → t.held k v ⊎ Full t k

  -- the receiver has what was offered: the position is present; the check is in hand (whatever it carries), or of no more use
  abbrev pub Here : Offer K C X → View K C X → Type 0
  Here (media i x) t = miss t i ≡ false
  Here (check k v) t = ((w : C) × t.held k w) ⊎ Full t k

  -- the receiver takes in one offer, or passes over one that tells it nothing; nothing comes in from elsewhere
  pub record Take (p : Offer K C X) (s t : View K C X) : Type 0 where
    pub keeps : Keeps s t
    pub new : (i : ℕ) (x : X) → t.slot i ≡ some x → (s.slot i ≡ some x) ⊎ (p ≡ media i x)
    pub sub : (k : K) (v : C) → t.held k v → s.held k v ⊎ (p ≡ check k v)
    pub release : Releases s t
    pub here : Here p t

  -- x for position i is the xor of check k in hand and of its other members, all of them present: i is the only one missing
  pub record Rebuild (s : View K C X) (k : K) (v : C) (i : ℕ) (x : X) : Type 0 where
    pub f : ℕ → X
    pub left : List ℕ
    pub right : List ℕ
    pub held : s.held k v
    pub is : P.group k ≡ left ++ (i ∷ right)
    pub missing : miss s i ≡ true
    pub rest : (j : ℕ) → Memᴰ j (left ++ right) → s.slot j ≡ some (f j)
    pub adds : x ≡ P.xor (P.value v) (sum P f (left ++ right))

  -- a check whose rebuild does not fit it
  abbrev pub Spoilt : View K C X → K → C → Type 0
  Spoilt s k v = (i : ℕ) × (x : X) × Rebuild s k v i x × (P.fits v x ≡ false)

  -- the receiver rebuilds any positions that it can, with packets that fit, and lets go of any checks that are full or spoilt
  pub record Step (s t : View K C X) : Type 0 where
    pub keeps : Keeps s t
    pub new : (i : ℕ) (x : X) → t.slot i ≡ some x → (s.slot i ≡ some x) ⊎ ((k : K) × (v : C) × Rebuild s k v i x × (P.fits v x ≡ true))
    pub sub : (k : K) (v : C) → t.held k v → s.held k v
    pub release : (k : K) (v : C) → s.held k v → t.held k v ⊎ (Full t k ⊎ Spoilt s k v)

  -- any number of steps
  pub data Steps : View K C X → View K C X → Type 1 where
    stop : {s : View K C X} → Steps s s
    go_on : {s t u : View K C X} → Step s t → Steps t u → Steps s u

  -- what happens to a receiver: it takes in the offers of a list, one after the other, and makes steps anywhere between
  pub data Runs : View K C X → List (Offer K C X) → View K C X → Type 1 where
    done : {s : View K C X} → Runs s [] s
    took : {p : Offer K C X} {os : List (Offer K C X)} {s t u : View K C X} → Take p s t → Runs t os u → Runs s (p ∷ os) u
    made : {os : List (Offer K C X)} {s t u : View K C X} → Step s t → Runs t os u → Runs s os u

  -- a receiver that has taken in some of a list of offers, and finds a check spoilt
  pub record Spoiling (s : View K C X) (os : List (Offer K C X)) : Type 1 where
    pub taken : List (Offer K C X)
    pub among : (p : Offer K C X) → Memᴰ p taken → Memᴰ p os
    pub then : View K C X
    pub runs : Runs s taken then
    pub key : K
    pub carries : C
    pub spoilt : Spoilt then key carries

  -- ---- what offers determine

  -- x can be worked out at position i: it was received, or it is the xor of a received check and of its other members, and fits the check
  pub data Known (R : Set (Offer K C X)) : ℕ → X → Type 0 where
    received : {i : ℕ} {x : X} → R (media i x) → Known R i x
    rebuilt : {i : ℕ} {x : X} (k : K) (v : C) (f : ℕ → X) (a b : List ℕ) → R (check k v) → P.group k ≡ a ++ (i ∷ b)
        → ((j : ℕ) → Memᴰ j (a ++ b) → Known R j (f j)) → x ≡ P.xor (P.value v) (sum P f (a ++ b)) → P.fits v x ≡ true → Known R i x

  -- a stopping set: "some set of media packets, none received, of which no received parity packet covers exactly one" (00)
  pub record Stopping (R : Set (Offer K C X)) (S : ℕ → Bool) : Type 0 where
    pub unreceived : (i : ℕ) (x : X) → R (media i x) → S i ≡ false
    pub never-one : (k : K) (v : C) → R (check k v) → count S (P.group k) ≢ 1

  -- ---- what stays true, whatever is offered

  -- a receiver that did only that: its packets are determined by what it received, and its checks were received
  pub record Sound (R : Set (Offer K C X)) (s : View K C X) : Type 0 where
    pub known : (i : ℕ) (x : X) → s.slot i ≡ some x → Known R i x
    pub kept : (k : K) (v : C) → s.held k v → R (check k v)

  -- ---- unaltered offers

  -- an offer that carries what was sent: the packet of its position, or the xor of the packets of its group, which all fit it
  abbrev pub Unaltered : (ℕ → X) → Offer K C X → Type 0
  Unaltered sent (media i x) = x ≡ sent i
  Unaltered sent (check k v) = (P.value v ≡ sum P sent (P.group k)) × ((i : ℕ) → Memᴰ i (P.group k) → P.fits v (sent i) ≡ true)

  -- a receiver that is sound and has lost nothing of what it received
  pub record Inv (R : Set (Offer K C X)) (s : View K C X) : Type 0 where
    pub sound : Sound R s
    pub all : (p : Offer K C X) → R p → Here p s
