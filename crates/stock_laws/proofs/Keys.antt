-- Keys of ports, and the values of functions that are changed at one of them.
use Rattle.std.proofs.Common.{◌≡◌, ◌≢◌, ◌⊎◌, ℕ, Bool, true, false, nat_eq, Option, if◌then◌else◌, refl, ap, arith, inl, inr}
use Rattle.std.proofs.lemmas.Bool.Decides.{nat_tests, eqb_tells}
use Rattle.std.proofs.Math.Path.{fun_ext}
use Rattle.il_machine.specs.declared.port.PortKey.{PortKey}
use Rattle.il_machine.specs.declared.header.Owner.{Owner}
use Rattle.il_machine.specs.declared.header.Owner.TheVariants as owners
use Rattle.il_machine.specs.declared.header.HeaderState.{HeaderState}
use Rattle.il_machine.specs.Headers.{Seen, same_key, is_owned_by}
use Rattle.il_machine.specs.Stock.{at_key, at_number, with_state}
use Rattle.il_machine.proofs.Looking.{same_seen}

pub same_key-sym : (a b : PortKey) → same_key a b ≡ same_key b a
same_key-sym a b = grind (arith, nat_tests)

pub same_key-refl : (a : PortKey) → same_key a a ≡ true
same_key-refl a = grind (arith, nat_tests)

pub key_tells : (a b : PortKey) → ((same_key a b ≡ true) × (a ≡ b)) ⊎ ((same_key a b ≡ false) × (a ≢ b))
key_tells a b = elim (eqb_tells a.component b.component) [
  | inl x ↦ elim (eqb_tells a.port b.port) [
    | inl y ↦ inl (rw (x.0, y.0) refl, (λ i. record { component = x.1 i; port = y.1 i }))
    | inr y ↦ inr (rw (x.0, y.0) refl, (λ e. y.1 (ap (λ (k : PortKey). k.port) e)))
  ]
  | inr x ↦ inr (rw x.0 refl, (λ e. x.1 (ap (λ (k : PortKey). k.component) e)))
]

-- a header of one port is none of another
pub other_owner : (key k : PortKey) (o : Owner) → is_owned_by key o ≡ true → same_key key k ≡ false → is_owned_by k o ≡ false
other_owner key k owners.Client h d = refl
other_owner key k (owners.Port owner) h d = grind (arith, nat_tests)
other_owner key k (owners.Work component) h d = refl
other_owner key k (owners.Notice component) h d = refl

module _ {A : Type 0} where
  -- one of two functions, as the key tells
  pub at_key-is : (key k : PortKey) (f g : PortKey → A) → (if same_key key k then f k else g k) ≡ at_key key (f key) g k
  at_key-is key k f g = rw (same_key-sym key k) (elim (key_tells k key) [ inl x ↦ rw (x.0, x.1) refl | inr x ↦ rw x.0 refl ])

  pub at_key-same : (key : PortKey) (x : A) (f : PortKey → A) → at_key key x f key ≡ x
  at_key-same key x f = rw same_key-refl refl

  pub at_number-same : (n : ℕ) (x : A) (f : ℕ → A) → at_number n x f n ≡ x
  at_number-same n x f = grind (arith, nat_tests)

  pub at_number-other : (n m : ℕ) (x : A) (f : ℕ → A) → m ≢ n → at_number n x f m ≡ f m
  at_number-other n m x f d = grind (arith, nat_tests)

  pub at_number-twice : (n : ℕ) (x y : A) (f : ℕ → A) (m : ℕ) → at_number n x (at_number n y f) m ≡ at_number n x f m
  at_number-twice n x y f m = elim (nat_eq m n) as (λ v. (if v then x else (if v then y else f m)) ≡ (if v then x else f m)) [ true ↦ refl | false ↦ refl ]

  pub at_number-over : (n : ℕ) (x y : A) (f : ℕ → A) → at_number n x (at_number n y f) ≡ at_number n x f
  at_number-over n x y f = fun_ext (at_number-twice n x y f)

count_over : (n : ℕ) (x y : Option HeaderState) (s : Seen) (q : HeaderState → Bool) → (with_state n x (with_state n y s)).count q ≡ (with_state n x s).count q
count_over n x y s q = rw (at_number-same n y s.header) (omega arith)

-- only the last state of a number counts
pub with_state-twice : (n : ℕ) (x y : Option HeaderState) (s : Seen) → with_state n x (with_state n y s) ≡ with_state n x s
with_state-twice n x y s = same_seen (with_state n x (with_state n y s)) (with_state n x s) (record {
  todo = λ k. refl;
  done = λ k. refl;
  unmarked = λ k. refl;
  header = at_number-twice n x y s.header;
  count = count_over n x y s;
})
