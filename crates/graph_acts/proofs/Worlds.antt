-- What worlds say of headers and client objects.
use Rattle.std.proofs.Common.{◌≡◌, ◌≤◌, ◌∙◌, sym, subst, refl, length, true, Option, Some, None, MatchOption, IsSomeAnd, Result, Ok, Err, [], ◌∷◌}
use Rattle.std.proofs.lemmas.List.Elements.{All-nil, All-cons}
use Rattle.omx_types.specs.declared.handle.Handle.{Handle}
use Rattle.omx_types.specs.declared.error.OmxError.{OmxError}
use Rattle.il_machine.specs.declared.answer.Progress.{Progress as Reached}
use Rattle.il_machine.specs.World.{Component, World}
use Rattle.il_machine.specs.Look.{Look, look}
use Rattle.il_machine.specs.Answers.{component_named, Looks}
use Rattle.il_machine.specs.Components.{progress_of}
use Rattle.il_machine.specs.Buffers.{IsWithClient, IsHeldByClient}
use Rattle.il_machine.specs.Due.{ClosesTo, IsClosed}
use Rattle.il_machine.specs.Acts.{Act, Reply}
use Rattle.il_machine.specs.Run.{Step, Meets}
use Rattle.il_machine.specs.Sound.{Sound}
use Rattle.header_core.specs.BufferHeader.{BufferHeader, IsSized}
use Rattle.graph_core.specs.Changes.{IsHandedIn}
use Rattle.graph_core.specs.Clients.{IsOut, WasTold}
use Rattle.machine_laws.proofs.Keys.{there_is, is_there}
use Rattle.history_laws.specs.Given.{LeavesNotes}
use Rattle.history_laws.proofs.GivenNotes.{progress_stays}
use Rattle.history_laws.specs.Objects.{IsObjectOut}

pub match_map : {X : Type 0} (o : Option X) (P Q : X → Type 0) → ((x : X) → P x → Q x) → MatchOption o ⊥ P → MatchOption o ⊥ Q
match_map None P Q f h = h
match_map (Some x) P Q f h = f x h

-- ---- headers

pub handed_with_client : (header : BufferHeader) (l : Look) → IsHandedIn header l → IsWithClient header.held.number l
handed_with_client header l h = match_map (l.headers.header header.held.number) _ _ (λ s x. x.0) h.1

pub handed_held : (header : BufferHeader) (l : Look) → IsSized header → IsHandedIn header l → IsHeldByClient header.held l
handed_held header l S h = match_map (l.headers.header header.held.number) _ _ (λ s x. (x.0, x.1.size, subst (λ n. length header.held.content ≤ n) x.1.size S.content)) h.1

-- ---- client objects

some_and : {X : Type 0} (o : Option X) (P : X → Type 0) → IsSomeAnd o P → MatchOption o ⊥ P
some_and None P h = absurd h
some_and (Some x) P h = h

pub object_out : (h : Handle) (w : World) → IsOut h (look w) → IsObjectOut h w
object_out h w o = some_and (component_named h w.components) (λ c. c.client_out ≡ true) o

pub out_there : (h : Handle) (l : Look) → IsOut h l → (c : Component) × (component_named h l.components ≡ Some c) × (c.client_out ≡ true)
out_there h l o = there_is (component_named h l.components) (λ c. c.client_out ≡ true) (some_and _ (λ c. c.client_out ≡ true) o)

pub meets_end : (h : Handle) (told : Reached) (w : World) → IsObjectOut h w → WasTold h told w → MatchOption (component_named h w.components) ⊥ (λ c. (c.client_out ≡ true) × (told ≡ progress_of c w))
meets_end h told w o t =
    let x = there_is (component_named h w.components) (λ c. c.client_out ≡ true) o in
    let y = there_is (component_named h w.components) _ t in
    let s : Some x.0 ≡ Some y.0 = sym x.1 ∙ y.1 in
    let e : x.0 ≡ y.0 = cc in
    is_there (component_named h w.components) _ y.0 y.1 (subst (λ (c : Component). c.client_out ≡ true) e x.2, y.2)

-- no note was given for the component: its client object has the same progress to come back with
pub still_told : (w v : World) (a : Act) (r : Reply) (h : Handle) (told : Reached) → Sound w → Meets w a → Step w a r v → LeavesNotes h.generation a r → WasTold h told w → IsOut h (look v) → WasTold h told v
still_told w v a r h told S M T L t o =
    let x = there_is (component_named h w.components) _ t in
    let y = out_there h (look v) o in
    let same : progress_of y.0 v ≡ progress_of x.0 w = progress_stays w v ((a, r) ∷ []) h x.0 y.0 S (v, M, T, refl) (All-cons (λ (x : Act × Reply). LeavesNotes h.generation x.0 x.1) (a, r) [] L (All-nil (λ (x : Act × Reply). LeavesNotes h.generation x.0 x.1))) x.1 y.1 in
    is_there (component_named h v.components) _ y.0 y.1 (x.2 ∙ sym same)

pub meets_told : (h : Handle) (told : Reached) (w : World) → MatchOption (component_named h w.components) ⊥ (λ c. (c.client_out ≡ true) × (told ≡ progress_of c w)) → WasTold h told w
meets_told h told w m = match_map (component_named h w.components) (λ c. (c.client_out ≡ true) × (told ≡ progress_of c w)) (λ c. told ≡ progress_of c w) (λ c x. x.1) m

-- ---- a closed world

closes_here : (w : World) → IsClosed w → ClosesTo w w
closes_here w c = record { steps = 0; by_steps = refl; closed = c }

pub looks_here : {T : Type 0} (answer result : Result T OmxError) (w : World) → IsClosed w → result ≡ answer → Looks answer result w w
looks_here (Ok x) result w c e = (e, closes_here w c)
looks_here (Err x) result w c e = (e, refl)
