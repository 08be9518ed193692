-- What a look at a component shows: what its client was given, which is no more than the component has told.
use Rattle.std.proofs.Common.{◌≡◌, ℕ, ◌<◌, Bool, true, if◌then◌else◌, List, [], ◌∷◌, ◌++◌, map, slice_get, Option, Some, None, option_and_then, is_some, Result, Ok, refl, sym, ◌∙◌, ap, subst}
use Rattle.std.specs.Prelude.{filter}
use Rattle.omx_types.specs.declared.command.Completion.{Completion}
use Rattle.omx_types.specs.declared.command.Completion.TheVariants as completions
use Rattle.omx_types.specs.declared.command.Event.TheVariants as events
use Rattle.omx_types.specs.declared.command.Note.{Note}
use Rattle.omx_types.specs.declared.command.Note.TheVariants.{EmptyDone, FillDone, Told}
use Rattle.omx_types.specs.declared.error.OmxError.{OmxError}
use Rattle.omx_types.specs.declared.handle.Handle.{Handle}
use Rattle.il_machine.specs.declared.answer.Progress.{Progress}
use Rattle.il_machine.specs.Answers.{looked}
use Rattle.il_machine.specs.Components.{first_error, is_given_to, no_progress, noted_by, progress_after, progress_answer, progress_of}
use Rattle.il_machine.specs.Queued.{notes_given}
use Rattle.il_machine.specs.World.{Component, Given, Stream, World, number_of}
use Rattle.machine_laws.proofs.Finding.{either}
use Rattle.play_model.specs.Changes.{port_at}
use Rattle.play_model.specs.Play.{Play}
use Rattle.play_world_laws.specs.Cast.{components_of, script_place}
use Rattle.play_world_laws.specs.Changing.{IsPast}
use Rattle.play_world_laws.specs.PlayWorlds.{IsActorAt, PlayCast, port_number}
use Rattle.play_world_laws.specs.Telling.{heard, progress_by}
use Rattle.play_world_laws.specs.Worlds.{Names}
use Rattle.read_world_laws.specs.Inside.{inside, taken_in}
use Rattle.read_world_laws.specs.Mended.{mend, mended}
use Rattle.play_history_laws.specs.Following.{IsPlayed}
use Rattle.play_history_laws.specs.Order.{Cursor}
use Rattle.play_history_laws.specs.Faults.{IsFaulty}
use Rattle.play_history_laws.specs.Telling.{IsAlike}
use Rattle.play_history_laws.proofs.StreamsKept.{in_place, read_there}
use Rattle.play_history_laws.proofs.Telling.{given_heard}
use Rattle.play_history_laws.specs.Behind.{IsBehind}
use Rattle.play_history_laws.proofs.Behind.{heard_behind}

-- ---- what was given

progress_is : (gs : List Given) (p : Progress) → progress_by (map (λ g. g.note) gs) p ≡ progress_after gs p
progress_is [] p = refl
progress_is (g ∷ gs) p = progress_is gs (noted_by g.note p)

-- all that the client of the component with this number was given
abbrev pub given_to : ℕ → World → Progress
given_to number w = progress_by (notes_given number w) no_progress

given_is : (w : World) (d : Component) → given_to (number_of d) w ≡ progress_of d w
given_is w d = progress_is (filter (is_given_to (number_of d)) w.given) no_progress

abbrev answered : Option Progress → Result (Option Progress) OmxError
answered view = Ok view

-- by the answer: the component is there, and its client object is in
looked_at : (w : World) (o : Option Component) (progress : Progress) → looked o (λ c. answered (if c.client_out then None else Some (progress_of c w))) ≡ answered (Some progress)
    → (d : Component) × (o ≡ Some d) × (progress_of d w ≡ progress)
looked_at w None progress e = absurd cc
looked_at w (Some d) progress e = either d.client_out
    (λ t. let s : answered None ≡ answered (Some progress) = sym (ap (λ (b : Bool). answered (if b then None else Some (progress_of d w))) t) ∙ e in absurd cc)
    (λ f.
    let s : answered (Some (progress_of d w)) ≡ answered (Some progress) = sym (ap (λ (b : Bool). answered (if b then None else Some (progress_of d w))) f) ∙ e in
    let is : progress_of d w ≡ progress = cc in
    (d, refl, is))

module _ (x : PlayCast) (k : Cursor) (recent : ℕ) (p : Play) (ss : List Stream) (w : World) (D : IsFaulty x k recent p ss w) (c : ℕ) (handle : Handle) (progress : Progress)
    (b : c < components_of x.cast) (n : Names x.cast w c handle) (e : progress_answer handle w ≡ Ok (Some progress)) where
  abbrev i : ℕ
  i = script_place x.cast c

  abbrev P : IsPlayed x k recent p (inside (mend ss w))
  P = (D.taken).played

  there : (d : Component) × (slice_get w.components i ≡ Some d) × (progress_of d w ≡ progress)
  there =
      let t = looked_at w (option_and_then (slice_get w.components) (Some i)) progress (ap (λ (o : Option ℕ). looked (option_and_then (slice_get w.components) o) (λ d. answered (if d.client_out then None else Some (progress_of d w)))) (sym n) ∙ e) in
      (t.0, t.1, t.2)

  abbrev d : Component
  d = there.0

  -- it shows all that was given
  pub shown : progress ≡ given_to i w
  shown = sym there.2 ∙ (sym (given_is w d) ∙ ap (λ (m : ℕ). given_to m w) (in_place x k recent p ss w P i d there.1))

  actor : IsActorAt x recent p (inside (mend ss w)) c (taken_in (mended d))
  actor = (P.play).actors c (taken_in (mended d)) b (read_there ss w i d there.1)

  alike : IsAlike (heard (inside (mend ss w)) (taken_in (mended d))) progress
  alike = subst (λ (h : Progress). IsAlike (heard (inside (mend ss w)) (taken_in (mended d))) h) (given_is w d ∙ there.2) (given_heard ss w d)

  pub looks_behind : progress.error ≡ None → IsBehind x.cast p c progress
  looks_behind none =
      let A = alike in
      let B = heard_behind x.cast recent p c (heard (inside (mend ss w)) (taken_in (mended d))) actor.heard_so in
      record {
        stage = B.stage;
        within = B.within;
        state = sym A.state ∙ B.state;
        eos = λ t. B.eos (A.eos ∙ t);
        error = none;
        settings = λ l O t s. B.settings l O t (ap (λ o. is_some o) A.settings ∙ s);
        past = λ o l m f t. subst (λ (port : Option Completion). IsPast (port_at o (p.change l)) (port_number x.cast o l) port) A.port (B.past o l m f t);
      }

-- ---- an error that was given stays

error_on : (n : Note) (p : Progress) → is_some p.error ≡ true → is_some (noted_by n p).error ≡ true
error_on (EmptyDone number) p t = t
error_on (FillDone number) p t = t
error_on (Told (events.CmdComplete (completions.State s))) p t = t
error_on (Told (events.CmdComplete (completions.Flush port))) p t = t
error_on (Told (events.CmdComplete (completions.Disable port))) p t = t
error_on (Told (events.CmdComplete (completions.Enable port))) p t = t
error_on (Told (events.CmdComplete (completions.Mark port))) p t = t
error_on (Told (events.Error error)) p t = first p.error
  where
    first : (o : Option OmxError) → is_some (first_error o error) ≡ true
    first None = refl
    first (Some earlier) = refl
error_on (Told (events.Mark value)) p t = t
error_on (Told (events.PortSettingsChanged port)) p t = t
error_on (Told (events.BufferFlag port flags)) p t = t
error_on (Told events.ResourcesAcquired) p t = t

pub errors_on : (ns : List Note) (p : Progress) → is_some p.error ≡ true → is_some (progress_by ns p).error ≡ true
errors_on [] p t = t
errors_on (n ∷ ns) p t = errors_on ns (noted_by n p) (error_on n p t)

progress_both : (ms ns : List Note) (p : Progress) → progress_by (ms ++ ns) p ≡ progress_by ns (progress_by ms p)
progress_both [] ns p = refl
progress_both (m ∷ ms) ns p = progress_both ms ns (noted_by m p)

-- the client of the component with this number was given an error
abbrev pub IsBroken : ℕ → World → Type 0
IsBroken number w = is_some (given_to number w).error ≡ true

pub broken_on : (number : ℕ) (w v : World) (more : List Note) → notes_given number v ≡ notes_given number w ++ more → IsBroken number w → IsBroken number v
broken_on number w v more e t =
    ap (λ (h : Progress). is_some h.error) (ap (λ (ns : List Note). progress_by ns no_progress) e ∙ progress_both (notes_given number w) more no_progress) ∙ errors_on more (given_to number w) t
