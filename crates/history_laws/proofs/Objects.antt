-- A client object that is out.
use Rattle.std.proofs.Common.{◌≡◌, ◌≢◌, ℕ, Bool, true, false, not, ◌||◌, Option, Some, None, is_some, slice_get, MatchOption, Result, Ok, refl, sym, ◌∙◌}
use Rattle.std.specs.Prelude.{option_and_then}
use Rattle.std.specs.List.{list_any}
use Rattle.omx_types.specs.declared.handle.Handle.{Handle}
use Rattle.omx_types.specs.declared.error.OmxError.{OmxError}
use Rattle.omx_types.specs.declared.command.Note.{Note}
use Rattle.part_api.specs.declared.attached.Attached.{Attached}
use Rattle.il_machine.specs.World.{Component, World, place_of, ports_of}
use Rattle.il_machine.specs.Headers.{Seen}
use Rattle.il_machine.specs.Look.{look}
use Rattle.il_machine.specs.States.{is_loaded, is_invalid}
use Rattle.il_machine.specs.Due.{each_port, ClosesTo}
use Rattle.il_machine.specs.Ports.{has_no_header, is_joined}
use Rattle.il_machine.specs.Answers.{Answers}
use Rattle.il_machine.specs.Components.{FreeHandle, free_refusal, without_component}
use Rattle.il_machine.specs.Notes.{Took, TookBusy, TakeNote, TakeFrom}
use Rattle.machine_laws.proofs.Accepting.{passed, not_either}
use Rattle.machine_laws.proofs.Keys.{there_is}
use Rattle.history_laws.specs.Objects.{IsObjectOut, IsRefused}

-- the component that the handle names
at_place : (o : Option ℕ) (w : World) (P : Component → Type 0) → MatchOption (option_and_then (slice_get w.components) o) ⊥ P
    → (i : ℕ) × (c : Component) × (o ≡ Some i) × (slice_get w.components i ≡ Some c) × P c
at_place None w P h = absurd h
at_place (Some i) w P h = let x = there_is (slice_get w.components i) P h in (i, x.0, refl, x.1, x.2)

taken_busy : (w v : World) (i : ℕ) (c : Component) (result : Result Took OmxError) (out : Bool) (oldest : Option Note) → out ≡ true → TakeFrom w i c out oldest result v → (result ≡ Ok TookBusy) × (v ≡ w)
taken_busy w v i c result true oldest e h = h
taken_busy w v i c result false oldest e h = absurd cc

pub out_busy : (w v : World) (h : Handle) (result : Result Took OmxError) → IsObjectOut h w → TakeNote w h result v → (result ≡ Ok TookBusy) × (v ≡ w)
out_busy w v h result out s =
    let x = at_place (place_of h w.components) w (λ c. c.client_out ≡ true) out in
    let p = x.2 in
    let t = x.3 in
    let a : TakeFrom w x.0 x.1 (x.1).client_out (slice_get (x.1).notes 0) result v = rw (p, t) at s in
    taken_busy w v x.0 x.1 result (x.1).client_out (slice_get (x.1).notes 0) x.4 a

free_out : (headers : Seen) (c : Component) → c.client_out ≡ true → free_refusal headers c ≡ None → ⊥
free_out headers c out n =
    let a = (passed (not (is_loaded c.state || is_invalid c.state) || (is_some c.pending || (not (each_port c (has_no_header headers)) || (list_any is_joined (ports_of c) || (is_some c.work || (c.client_out || false)))))) _ _ n).0 in
    let b = not_either (not (is_loaded c.state || is_invalid c.state)) _ a in
    let d = not_either (is_some c.pending) _ b.1 in
    let e = not_either (not (each_port c (has_no_header headers))) _ d.1 in
    let f = not_either (list_any is_joined (ports_of c)) _ e.1 in
    let k = not_either (is_some c.work) _ f.1 in
    let m = not_either c.client_out _ k.1 in
    let t : true ≡ false = sym out ∙ m.0 in
    absurd cc

refused_so : (o : Option OmxError) (result : Result (Option Attached) OmxError) (w v : World) (Accepted : Option Attached → Type 0) → o ≢ None → Answers o result w v Accepted → IsRefused result w v
refused_so None result w v Accepted n a = absurd (n refl)
refused_so (Some error) result w v Accepted n a = (error, a.0, a.1)

pub out_stays : (w v : World) (h : Handle) (result : Result (Option Attached) OmxError) → IsObjectOut h w → FreeHandle w h result v → IsRefused result w v
out_stays w v h result out s =
    let x = at_place (place_of h w.components) w (λ c. c.client_out ≡ true) out in
    let p = x.2 in
    let t = x.3 in
    let a : Answers (free_refusal (look w).headers x.1) result w v (λ file. (file ≡ (x.1).file) × ClosesTo (without_component x.0 x.1 w) v) = rw (p, t) at s in
    refused_so (free_refusal (look w).headers x.1) result w v _ (free_out (look w).headers x.1 x.4) a
