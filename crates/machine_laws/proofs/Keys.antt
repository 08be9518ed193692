-- Keys of ports, as tests and as equations.
use Rattle.std.proofs.Common.{◌≡◌, ◌≢◌, ◌⊎◌, inl, inr, Bool, true, false, ◌||◌, nat_eq, Option, Some, None, refl, ap, MatchOption, eqb-true, eq-eqb}
use Rattle.std.proofs.lemmas.Bool.{or_cases, and_parts}
use Rattle.il_machine.specs.declared.port.PortKey.{PortKey}
use Rattle.il_machine.specs.declared.header.HeaderState.{HeaderState}
use Rattle.il_machine.specs.Headers.{same_key, is_key, is_for}
use Rattle.machine_laws.proofs.Finding.{either}

pub key_is : (a b : PortKey) → same_key a b ≡ true → a ≡ b
key_is a b h =
    let p = and_parts (nat_eq a.component b.component) (nat_eq a.port b.port) h in
    let c : a.component ≡ b.component = eqb-true _ _ p.0 in
    let n : a.port ≡ b.port = eqb-true _ _ p.1 in
    λ i. record { component = c i; port = n i }

pub key_same : (a : PortKey) → same_key a a ≡ true
key_same a = rw (eq-eqb a.component a.component refl, eq-eqb a.port a.port refl) refl

pub key_apart : (a b : PortKey) → same_key a b ≡ false → a ≢ b
key_apart a b h e = let t : same_key a b ≡ true = rw e (key_same b) in absurd cc

pub same_or_apart : (a b : PortKey) → (a ≡ b) ⊎ (a ≢ b)
same_or_apart a b = either (same_key a b) (λ t. inl (key_is a b t)) (λ f. inr (key_apart a b f))

is_key_is : (key : PortKey) (o : Option PortKey) → is_key key o ≡ true → o ≡ Some key
is_key_is key None h = absurd cc
is_key_is key (Some peer) h = ap (λ (k : PortKey). Some k) (key_is peer key h)

-- a header was made for its port or for its peer
pub for_which : (key : PortKey) (s : HeaderState) → is_for key s ≡ true → (s.port ≡ key) ⊎ (s.peer ≡ Some key)
for_which key s h = elim (or_cases (same_key s.port key) (is_key key s.peer) h) [ inl t ↦ inl (key_is s.port key t) | inr t ↦ inr (is_key_is key s.peer t) ]

pub for_port : (key : PortKey) (s : HeaderState) → s.port ≡ key → is_for key s ≡ true
for_port key s e = rw (e, key_same key) refl

or_true : (b : Bool) → (b || true) ≡ true
or_true true = refl
or_true false = refl

pub for_peer : (key : PortKey) (s : HeaderState) → s.peer ≡ Some key → is_for key s ≡ true
for_peer key s e = rw (e, key_same key) (or_true (same_key s.port key))

-- what is there has the property
pub there_is : {A : Type 0} (o : Option A) (P : A → Type 0) → MatchOption o ⊥ P → (x : A) × (o ≡ Some x) × P x
there_is None P h = absurd h
there_is (Some x) P h = (x, refl, h)

pub is_there : {A : Type 0} (o : Option A) (P : A → Type 0) (x : A) → o ≡ Some x → P x → MatchOption o ⊥ P
is_there o P x e h = rw e h

pub at_there : {A : Type 0} (o : Option A) (P : A → Type 0) (x : A) → o ≡ Some x → MatchOption o ⊥ P → P x
at_there o P x e h = rw e at h

pub none_or_some : {A : Type 0} (o : Option A) → (o ≡ None) ⊎ ((x : A) × (o ≡ Some x))
none_or_some None = inl refl
none_or_some (Some x) = inr (x, refl)
