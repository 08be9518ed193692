-- The headers of a work stay in it over the close-out.
use Rattle.std.proofs.Common.{◌≡◌, ℕ, List, [], ◌∷◌, Option, Some, None, MatchOption, option_map, refl, sym, ◌∙◌, ap, subst}
use Rattle.il_machine.specs.declared.answer.Progress.{Progress}
use Rattle.il_machine.specs.declared.header.Owner.TheVariants as owners
use Rattle.il_machine.specs.World.{HeaderRecord, World}
use Rattle.il_machine.specs.Headers.{find_header, seen}
use Rattle.il_machine.specs.Look.{Look}
use Rattle.il_machine.specs.Due.{ClosesTo}
use Rattle.history_laws.proofs.HeldOut.{times_outs}
use Rattle.history_laws.proofs.KeyLaw.{closing_key}
use Rattle.stock_laws.specs.Bare.{StandsBare, StepsBare}
use Rattle.header_core.specs.BufferHeader.{BufferHeader}
use Rattle.port_stock.specs.Conditions.{IsHeaderOf}
use Rattle.graph_core.specs.Claiming.{AreLent, IsLent}
use Rattle.graph_core.specs.Entries.{Entries, look_of}
use Rattle.graph_core.specs.Entries as core

-- a header that is in a work
lent_record : (component : ℕ) (h : BufferHeader) (o : Option HeaderRecord) → MatchOption (option_map (λ (r : HeaderRecord). r.state) o) ⊥ (λ s. (s.owner ≡ owners.Work component) × IsHeaderOf s h)
    → (r : HeaderRecord) × (o ≡ Some r) × (r.state.owner ≡ owners.Work component)
lent_record component h None m = absurd m
lent_record component h (Some r) m = (r, refl, m.0)

module _ {C : Type 0} (progress : C → Progress) (m k : Entries C) (u : World) (U : StandsBare (core.kept progress m) u) (closes : StepsBare (core.kept progress m) (core.kept progress k) ClosesTo) where
  lent_on : (component : ℕ) (h : BufferHeader) → IsLent component h (look_of m) → IsLent component h (look_of k)
  lent_on component h L =
      let x = closes u U in
      let v = x.0 in
      let before : MatchOption ((seen u.headers).header h.held.number) ⊥ (λ s. (s.owner ≡ owners.Work component) × IsHeaderOf s h) = subst (λ (l : Look). MatchOption (l.headers.header h.held.number) ⊥ (λ s. (s.owner ≡ owners.Work component) × IsHeaderOf s h)) (sym U.looks) L.1 in
      let r = lent_record component h (find_header h.held.number u.headers) before in
      let same : find_header h.held.number v.headers ≡ find_header h.held.number u.headers = times_outs (x.2).steps u v (x.2).by_steps U.once h.held.number (r.0, component, r.1, r.2) in
      let after : MatchOption ((seen v.headers).header h.held.number) ⊥ (λ s. (s.owner ≡ owners.Work component) × IsHeaderOf s h)
      = subst (λ (o : Option HeaderRecord). MatchOption (option_map (λ (r : HeaderRecord). r.state) o) ⊥ (λ s. (s.owner ≡ owners.Work component) × IsHeaderOf s h)) (sym same) before in
      let key : (look_of k).key ≡ (look_of m).key = ap (λ (l : Look). l.key) (sym x.1.looks) ∙ (closing_key u v x.2 ∙ ap (λ (l : Look). l.key) U.looks) in
      (L.0 ∙ sym key, subst (λ (l : Look). MatchOption (l.headers.header h.held.number) ⊥ (λ s. (s.owner ≡ owners.Work component) × IsHeaderOf s h)) x.1.looks after)

  pub lent_over : (component : ℕ) (places : List (Option BufferHeader)) → AreLent component places (look_of m) → AreLent component places (look_of k)
  lent_over component [] A = tt
  lent_over component (None ∷ places) A = (tt, lent_over component places A.1)
  lent_over component (Some h ∷ places) A = (lent_on component h A.0, lent_over component places A.1)
