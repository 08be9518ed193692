-- Things that go out to passes and come back from them, whatever they are: each has a key, and a call may give one and take one in.
use Rattle.std.specs.Prelude.{◌≡◌, ◌≢◌, ◌⊎◌, ℕ, Bool, true, not, List, [], ◌∷◌, filter, Option, Some, None, IfSome}
use Rattle.turnstile.specs.declared.entry.Entry.{Entry}
use Rattle.turnstile.specs.Entries.{own}

-- x is one of the list
abbrev pub Has : {X : Type 0} → List X → X → Type 0
Has [] x = ⊥
Has (y ∷ ys) x = (y ≡ x) ⊎ Has ys x

abbrev pub more : {X : Type 0} → Option X → List X → List X
more None xs = xs
more (Some x) xs = x ∷ xs

-- the test tells keys apart
pub record Tells {K : Type 0} (same : K → K → Bool) : Type 0 where
  pub is : (a b : K) → same a b ≡ true → a ≡ b
  pub itself : (a : K) → same a a ≡ true

-- the key isn't that of the thing that was taken in
abbrev pub IsOther : {K : Type 0} → Option K → K → Type 0
IsOther None k = Unit {0}
IsOther (Some gone) k = k ≢ gone

module _ {X K : Type 0} (key : X → K) where
  -- the list without the thing that was taken in
  abbrev pub less : (K → K → Bool) → Option K → List X → List X
  less same None xs = xs
  less same (Some gone) xs = filter (λ x. not (same (key x) gone)) xs

  abbrev pub HasKey : Option X → K → Type 0
  HasKey None k = ⊥
  HasKey (Some x) k = key x ≡ k

  -- Whatever a pass holds is out as it was got (Out); no two passes hold the same; and what is out (Is) was out at first (Was), or some
  -- pass holds it.
  pub record AreHeld (held : ℕ → List X) (Out : X → Type 0) (Is Was : K → Type 0) : Type 0 where
    pub out : (p : ℕ) (x : X) → Has (held p) x → Out x
    pub apart : (p q : ℕ) (x y : X) → Has (held p) x → Has (held q) y → key x ≡ key y → p ≡ q
    pub all : (k : K) → Is k → Was k ⊎ ((p : ℕ) × (x : X) × Has (held p) x × (key x ≡ k))

  -- What is given is out then, and nothing that was out before has its key.
  pub record Given (Out Now : X → Type 0) (x : X) : Type 0 where
    pub now : Now x
    pub other : (y : X) → Out y → key y ≢ key x

  -- A call: each thing that was out (Out, and Is of its key) is so still (Now, Then) but for the one taken in, and none is out beside but
  -- the one given.
  pub record Moves (gone : Option K) (come : Option X) (Out Now : X → Type 0) (Is Then : K → Type 0) : Type 0 where
    pub stay : (x : X) → IsOther gone (key x) → Out x → Now x
    pub back : (k : K) → Then k → (Is k × IsOther gone k) ⊎ HasKey come k
    pub given : IfSome come (Given Out Now)

  -- what is taken in is one of the list
  abbrev pub IsOwn : List X → Option K → Type 0
  IsOwn held gone = (k : K) → gone ≡ Some k → (x : X) × Has held x × (key x ≡ k)

module _ {X K A R : Type 0} (key : X → K) (same : K → K → Bool) (gone : A → R → Option K) (come : A → R → Option X) where
  -- what is held after a call and its reply
  abbrev pub after : List X → A → R → List X
  after xs a r = more (come a r) (less key same (gone a r) xs)

  abbrev pub held_from : List X → List (Entry A R) → List X
  held_from xs [] = xs
  held_from xs (e ∷ es) = held_from (after xs e.act e.reply) es

  -- what a pass holds after a history, by its own entries: what it was given and didn't give back
  abbrev pub held_by : List (Entry A R) → ℕ → List X
  held_by log p = held_from [] (own p log)
