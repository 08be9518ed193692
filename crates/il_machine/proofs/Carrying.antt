-- What the headers of a work carry, as their holder sees it.
use Rattle.std.proofs.Common.{◌≡◌, ℕ, suc, true, false, List, [], ◌∷◌, slice_get, Option, Some, None, option_map, refl, sym, ◌∙◌}
use Rattle.il_machine.specs.declared.header.Owner.{Owner}
use Rattle.il_machine.specs.declared.header.Owner.TheVariants as owners
use Rattle.il_machine.specs.World.{HeaderRecord, Picked}
use Rattle.il_machine.specs.Headers.{find_header, has_number, changed, given_to}
use Rattle.il_machine.specs.Buffers.{Held, held}
use Rattle.il_machine.specs.Claims.{CarriedHeader, carried, carried_by, all_given_out}

-- what a header shows its holder doesn't tell its owner
held_as : (m n : ℕ) (o : Owner) (hs : List HeaderRecord) → option_map held (find_header m (changed n (given_to o) hs)) ≡ option_map held (find_header m hs)
held_as m n o [] = refl
held_as m n o (r ∷ hs) = elim (has_number n r) as (λ b. has_number n r ≡ b → option_map held (find_header m (changed n (given_to o) (r ∷ hs))) ≡ option_map held (find_header m (r ∷ hs))) [
  | true ↦ λ e. elim (has_number m r) as (λ b. has_number m r ≡ b → option_map held (find_header m (changed n (given_to o) (r ∷ hs))) ≡ option_map held (find_header m (r ∷ hs))) [ true ↦ λ q. rw (e, q) refl | false ↦ λ q. rw (e, q) refl ] refl
  | false ↦ λ e. elim (has_number m r) as (λ b. has_number m r ≡ b → option_map held (find_header m (changed n (given_to o) (r ∷ hs))) ≡ option_map held (find_header m (r ∷ hs))) [
    | true ↦ λ q. rw (e, q) refl
    | false ↦ λ q. rw (e, q) (held_as m n o hs)
  ] refl
] refl

pub held_out : (m k : ℕ) (ps : List Picked) (hs : List HeaderRecord) → option_map held (find_header m (all_given_out k ps hs)) ≡ option_map held (find_header m hs)
held_out m k [] hs = refl
held_out m k (p ∷ ps) hs = held_out m k ps (changed p.number (given_to (owners.Work k)) hs) ∙ held_as m p.number (owners.Work k) hs

abbrev carried_as : ℕ → Option Held → List CarriedHeader → List CarriedHeader
carried_as port None rest = rest
carried_as port (Some h) rest = record { port = port; header = h } ∷ rest

carried_by_held : (port : ℕ) (o : Option HeaderRecord) (rest : List CarriedHeader) → carried_by port o rest ≡ carried_as port (option_map held o) rest
carried_by_held port None rest = refl
carried_by_held port (Some r) rest = refl

-- the headers carry the same where each shows the same
pub carried_same : (hs ks : List HeaderRecord) (ps : List Picked) → ((j : ℕ) (p : Picked) → slice_get ps j ≡ Some p → option_map held (find_header p.number ks) ≡ option_map held (find_header p.number hs)) → carried ks ps ≡ carried hs ps
carried_same hs ks [] h = refl
carried_same hs ks (p ∷ ps) h =
    let e = h 0 p refl in
    let i = carried_same hs ks ps (λ j q f. h (suc j) q f) in
    carried_by_held p.port (find_header p.number ks) (carried ks ps)
    ∙ ((λ t. carried_as p.port (e t) (i t)) ∙ sym (carried_by_held p.port (find_header p.number hs) (carried hs ps)))
