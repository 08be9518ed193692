-- Headers that may be made, and headers that are handed in.
use Rattle.std.proofs.Common.{◌≡◌, ℕ, false, not, ◌||◌, nat_lt, List, length, Option, Some, None, MatchOption, IsSomeAnd, refl, sym, subst, ltb-false}
use Rattle.std.specs.Prelude.{is_some}
use Rattle.omx_types.specs.declared.handle.Handle.{Handle}
use Rattle.omx_types.specs.declared.error.OmxError.TheVariants as errors
use Rattle.il_machine.specs.declared.answer.Progress.{Progress}
use Rattle.il_machine.specs.declared.port.Port.{Port}
use Rattle.il_machine.specs.declared.header.HeaderState.{HeaderState}
use Rattle.il_machine.specs.declared.header.Owner.TheVariants as owners
use Rattle.il_machine.specs.Look.{Look}
use Rattle.il_machine.specs.Ports.{accepting, is_joined}
use Rattle.il_machine.specs.States.{is_invalid}
use Rattle.il_machine.specs.World.{Component, port_of}
use Rattle.il_machine.specs.Buffers.{allocate_refusal, has_no_block, has_no_number, is_bad_length, use_refusal}
use Rattle.machine_laws.proofs.Accepting.{not_not, passed}
use Rattle.header_core.specs.BufferHeader.{BufferHeader, cleared}
use Rattle.port_stock.specs.Conditions.{IsHeaderOf}
use Rattle.graph_core.specs.Changes.{IsHandedIn, IsMakable}
use Rattle.graph_core.specs.Entries.{Entries, component_at, look_of}
use Rattle.il_graph.proofs.Calling.{Found, at_some, and_some}
use Rattle.il_graph.proofs.Ready.{either_of}

none_of : {A : Type 0} (o : Option A) → is_some o ≡ false → o ≡ None
none_of None h = refl
none_of (Some x) h = absurd cc

use_makable : (l : Look) (c : Component) (o : Option Port) (bytes : List ℕ) → use_refusal l c o (length bytes) ≡ None → IsSomeAnd o (λ p. IsMakable l c p (Some bytes))
use_makable l c None bytes h =
    let a = passed (is_invalid c.state) errors.InvalidState _ h in
    absurd (let z = a.1 in cc)
use_makable l c (Some p) bytes h =
    let a = passed (is_invalid c.state) errors.InvalidState _ h in
    let d = passed (is_joined p || is_bad_length (length bytes) p) errors.BadParameter _ a.1 in
    let e = passed (not (accepting l.headers c p)) errors.IncorrectStateOperation _ d.1 in
    let f = passed (has_no_number l) errors.InsufficientResources _ e.1 in
    let x = either_of (is_joined p) (is_bad_length (length bytes) p) d.0 in
    let y = either_of (nat_lt (length bytes) p.setting.definition.size) (nat_lt 4096 (length bytes)) x.1 in
    record { alone = none_of p.state.link x.0; accepts = not_not (accepting l.headers c p) e.0; numbers = f.0; fits = ltb-false (length bytes) p.setting.definition.size y.0; block = λ e. absurd cc }

allocate_makable : (l : Look) (c : Component) (o : Option Port) → allocate_refusal l c o ≡ None → IsSomeAnd o (λ p. IsMakable l c p None)
allocate_makable l c None h =
    let a = passed (is_invalid c.state) errors.InvalidState _ h in
    absurd (let z = a.1 in cc)
allocate_makable l c (Some p) h =
    let a = passed (is_invalid c.state) errors.InvalidState _ h in
    let d = passed (is_joined p) errors.BadParameter _ a.1 in
    let f = passed (not (accepting l.headers c p)) errors.IncorrectStateOperation _ d.1 in
    let g = passed (has_no_block l.headers || has_no_number l) errors.InsufficientResources _ f.1 in
    let x = either_of (has_no_block l.headers) (has_no_number l) g.0 in
    record { alone = none_of p.state.link d.0; accepts = not_not (accepting l.headers c p) f.0; numbers = x.1; fits = tt; block = λ _. x.0 }

module _ {C : Type 0} (progress : C → Progress) (g : Entries C) (h : Handle) (i : ℕ) (F : Found progress g h i) (port : ℕ) (bytes : List ℕ) where
  pub may_use : MatchOption (component_at i g) ⊥ (λ c. None ≡ use_refusal (look_of g) c (port_of c port) (length bytes)) → IsSomeAnd (component_at i g) (λ c. IsSomeAnd (port_of c port) (λ p. IsMakable (look_of g) c p (Some bytes)))
  may_use m =
      let r = at_some (λ c. None ≡ use_refusal (look_of g) c (port_of c port) (length bytes)) (component_at i g) F.component F.at m in
      and_some (λ c. IsSomeAnd (port_of c port) (λ p. IsMakable (look_of g) c p (Some bytes))) (component_at i g) F.component F.at (use_makable (look_of g) F.component (port_of F.component port) bytes (sym r))

module _ {C : Type 0} (progress : C → Progress) (g : Entries C) (h : Handle) (i : ℕ) (F : Found progress g h i) (port : ℕ) where
  pub may_allocate : MatchOption (component_at i g) ⊥ (λ c. None ≡ allocate_refusal (look_of g) c (port_of c port)) → IsSomeAnd (component_at i g) (λ c. IsSomeAnd (port_of c port) (λ p. IsMakable (look_of g) c p None))
  may_allocate m =
      let r = at_some (λ c. None ≡ allocate_refusal (look_of g) c (port_of c port)) (component_at i g) F.component F.at m in
      and_some (λ c. IsSomeAnd (port_of c port) (λ p. IsMakable (look_of g) c p None)) (component_at i g) F.component F.at (allocate_makable (look_of g) F.component (port_of F.component port) (sym r))

-- one that is cleared is still handed in
same_state : (o : Option HeaderState) (h : BufferHeader) → MatchOption o ⊥ (λ s. (s.owner ≡ owners.Client) × IsHeaderOf s h) → MatchOption o ⊥ (λ s. (s.owner ≡ owners.Client) × IsHeaderOf s (cleared h))
same_state None h m = m
same_state (Some s) h m = (m.0, record { size = m.1.size; memory = m.1.memory })

pub cleared_in : (h k : BufferHeader) (l : Look) → k ≡ cleared h → IsHandedIn h l → IsHandedIn k l
cleared_in h k l e H = subst (λ (x : BufferHeader). IsHandedIn x l) (sym e) (H.0, same_state (l.headers.header h.held.number) h H.1)
