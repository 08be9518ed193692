-- What supply and release are idle for, test by test.
use Rattle.std.proofs.Common.{◌≡◌, ℕ, Bool, true, false, not, ◌&&◌, List, [], ◌∷◌, ◌++◌, Option, Some, is_some, MatchOption, slice_get, refl, sym, ◌∙◌, ap, if◌then◌else◌}
use Rattle.il_machine.specs.declared.answer.Progress.{Progress}
use Rattle.il_machine.specs.declared.answer.Why.{Why}
use Rattle.il_machine.specs.declared.answer.Why.TheVariants as why
use Rattle.il_machine.specs.declared.port.Port.{Port}
use Rattle.il_machine.specs.World.{Component, port_of}
use Rattle.il_machine.specs.Lists.{first_of_these, is_empty}
use Rattle.il_machine.specs.Look.{Look}
use Rattle.il_machine.specs.Ports.{accepting, id_of, is_supplier, leaving}
use Rattle.il_machine.specs.Buffers.{has_no_block, has_no_number}
use Rattle.il_machine.specs.Flow.{at_end, in_port, other_end, release_idle, supply_idle}
use Rattle.il_component.specs.Entries.{Entry, component_of}
use Rattle.graph_core.specs.Entries.{Entries, look_of, component_at}
use Rattle.graph_core.proofs.Replacing.{there}
use Rattle.port_rules.proofs.Passing.{left_found}

right_found : {E : Type 0} (xs ys : List (Bool × E)) (o : Option E) → o ≡ first_of_these xs → is_some o ≡ false → first_of_these (xs ++ ys) ≡ first_of_these ys
right_found [] ys o h n = refl
right_found (x ∷ xs) ys o h n = elim (x.0) as (λ b. o ≡ (if b then Some x.1 else first_of_these xs) → (if b then Some x.1 else first_of_these (xs ++ ys)) ≡ first_of_these ys)
    [ true ↦ λ q. let z : is_some o ≡ true = ap is_some q in absurd cc | false ↦ λ q. right_found xs ys o q n ] h

module _ (l : Look) (c : Component) (p : Port) where
  abbrev here : List (Bool × Why)
  here = (not (accepting l.headers c p), why.NotAccepting (id_of c p)) ∷ []

  abbrev far : List (Bool × Why)
  far = at_end (other_end l.components p) (λ e. (not (accepting l.headers e.component e.port), why.NotAccepting (id_of e.component e.port)) ∷ [])

  abbrev last : List (Bool × Why)
  last = (has_no_block l.headers, why.NoBlock) ∷ (has_no_number l, why.NoNumber) ∷ []

  pub no_supplier : is_supplier p ≡ false → Some why.NotSupplier ≡ supply_idle l c p
  no_supplier s = rw s refl

  of_supplier : is_supplier p ≡ true → supply_idle l c p ≡ first_of_these (here ++ (far ++ last))
  of_supplier s = rw s refl

  pub closed_here : (o : Option Why) → is_supplier p ≡ true → o ≡ first_of_these here → is_some o ≡ true → o ≡ supply_idle l c p
  closed_here o s h t = sym (of_supplier s ∙ left_found here (far ++ last) o (sym h) t)

  pub closed_there : (o u : Option Why) → is_supplier p ≡ true → o ≡ first_of_these here → is_some o ≡ false → u ≡ first_of_these far → is_some u ≡ true → u ≡ supply_idle l c p
  closed_there o u s h n k t = sym (of_supplier s ∙ (right_found here (far ++ last) o h n ∙ left_found far last u (sym k) t))

  pub short : (o u v : Option Why) → is_supplier p ≡ true → o ≡ first_of_these here → is_some o ≡ false → u ≡ first_of_these far → is_some u ≡ false → v ≡ first_of_these last → v ≡ supply_idle l c p
  short o u v s h n k m e = e ∙ sym (of_supplier s ∙ (right_found here (far ++ last) o h n ∙ right_found far last u k m))

  -- ---- release

  pub release_at : (a b d : Bool) → is_supplier p ≡ a → leaving c p ≡ b → is_empty (in_port l.headers p) ≡ d
      → release_idle l c p ≡ first_of_these ((not a, why.NotSupplier) ∷ (not b, why.NotLeaving) ∷ (d, why.NoHeader) ∷ [])
  release_at a b d s f e = rw (s, f, e) refl

pub empty_append : {A : Type 0} (xs ys : List A) → is_empty (xs ++ ys) ≡ is_empty xs && is_empty ys
empty_append [] ys = refl
empty_append (x ∷ xs) ys = refl

-- ---- what is said of the port of a place

abbrev pub Says : {C : Type 0} → Option Why → ℕ → ℕ → Entries C → Type 0
Says o i index g = MatchOption (component_at i g) ⊥ (λ c. MatchOption (port_of c index) ⊥ (λ p. o ≡ supply_idle (look_of g) c p))

pub said : {C : Type 0} (progress : C → Progress) (g : Entries C) (i : ℕ) (e : Entry C) (index : ℕ) (p : Port) (o : Option Why) → slice_get g.entries i ≡ Some e → port_of (component_of e) index ≡ Some p
    → o ≡ supply_idle (look_of g) (component_of e) p → Says o i index g
said progress g i e index p o at port h = rw (there progress g i e at, port) h
