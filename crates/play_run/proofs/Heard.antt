-- What the steps of a play have told of its components is what was heard of them.
use Rattle.std.proofs.Common.{◌≡◌, ℕ, suc, ◌<◌, ◌≤◌, Bool, true, false, List, ◌++◌, map, length, All, Option, Some, is_some, refl, sym, ◌∙◌, ap, subst, le-leb}
use Rattle.std.specs.Prelude.{filter}
use Rattle.std.proofs.lemmas.List.Elements.{All-map, All-weaker}
use Rattle.omx_types.specs.declared.command.Completion.{Completion}
use Rattle.omx_types.specs.declared.command.Note.{Note}
use Rattle.il_machine.specs.declared.answer.Progress.{Progress}
use Rattle.il_machine.specs.Acts.{Act, Reply}
use Rattle.il_machine.specs.Components.{is_given_to, no_progress}
use Rattle.il_machine.specs.Queued.{notes_given}
use Rattle.il_machine.specs.World.{Component, Given, number_of}
use Rattle.history_laws.specs.Given.{is_freed_by}
use Rattle.history_laws.specs.GivenIn.{given_in}
use Rattle.history_laws.proofs.Delivering.{run_given}
use Rattle.play_model.specs.Changes.{port_at}
use Rattle.play_model.specs.Play.{Play, component_at}
use Rattle.play_world_laws.specs.Cast.{components_of, giver_of, links_of, script_place}
use Rattle.play_world_laws.specs.Standing.{target}
use Rattle.play_world_laws.specs.Telling.{heard, heard_of, last_told, progress_by}
use Rattle.play_world_laws.specs.Changing.{told_of_port}
use Rattle.play_world_laws.specs.PlayWorlds.{HasHeard, port_number}
use Rattle.play_world_laws.proofs.ChangeEnds.{actor_there, end_inside}
use Rattle.play_plan_laws.specs.Assemblies.{play_cast_of}
use Rattle.play_log.specs.Entries.{Entry, step_of, steps_of}
use Rattle.play_result_laws.specs.Asked.{told_by}
use Rattle.play_run.specs.Playing.{IsStanding, PlayingValue, cast, layout_of}
use Rattle.play_run.specs.Recording.{FreesNone}
use Rattle.play_run.proofs.Hearing.{client_there}

last_at_four : (phase stage k : ℕ) → phase ≡ suc k → stage ≡ 4 → last_told phase stage ≡ Some (target phase)
last_at_four phase stage k e f = rw (e, f) refl

module _ {S K : Type 0} (x : PlayingValue S K) (p : Play) (Z : IsStanding x p) where
  abbrev steps : List (Act × Reply)
  steps = steps_of (Z.recorded).history

  none_freed : (number : ℕ) → All (λ (y : Act × Reply). is_freed_by number y.0 y.1 ≡ false) steps
  none_freed number = All-map (λ (y : Act × Reply). is_freed_by number y.0 y.1 ≡ false) step_of (Z.recorded).history
      (All-weaker FreesNone (λ (entry : Entry). is_freed_by number entry.act entry.reply ≡ false) (λ entry F. F number) (Z.recorded).history (Z.recorded).stay)

  -- nothing was given before the play
  given_is : (number : ℕ) → notes_given number Z.world ≡ given_in number steps
  given_is number =
      let stage = (Z.begins).opens.1 in
      run_given Z.opening Z.world steps number stage.sound (Z.recorded).runs (none_freed number)
      ∙ ap (λ (gs : List Given). map (λ (g : Given). g.note) (filter (is_given_to number) gs) ++ given_in number steps) stage.built.given

  -- of the component that has that turn
  record IsHeardAt (c : ℕ) : Type 0 where
    progress : Progress
    told : told_by (script_place (cast x.plan) c) steps ≡ progress
    so : HasHeard (cast x.plan) Z.recent p c progress

  heard_at : (c : ℕ) → c < components_of (cast x.plan) → IsHeardAt c
  heard_at c b =
      let t = actor_there (play_cast_of x.plan) Z.recent p Z.world c (Z.conducted).play b in
      let a : Component = t.0 in
      let A = t.2 in
      let o = client_there x p Z c b a t.1 in
      let n : number_of a ≡ script_place (cast x.plan) c = A.number in
      let same : heard Z.world a ≡ told_by (script_place (cast x.plan) c) steps =
      ap (λ (out : Bool). progress_by (heard_of out (notes_given (number_of a) Z.world)) no_progress) o
      ∙ (ap (λ (k : ℕ). progress_by (notes_given k Z.world) no_progress) n ∙ ap (λ (ns : List Note). progress_by ns no_progress) (given_is (script_place (cast x.plan) c)))
      in
      record { progress = heard Z.world a; told = sym same; so = A.heard_so }

  -- where each has told the state that was sent last
  pub all_at : (k : ℕ) → p.phase ≡ suc k → ((c : ℕ) → c < components_of (cast x.plan) → p.stage c ≡ 4) → (place : ℕ) → place < length x.plan.parts → (told_by place steps).state ≡ Some (target p.phase)
  all_at k e all place b =
      let t = (((Z.conducted).play).cast_is).each place b in
      let H = heard_at t.0 t.1 in
      let here : (told_by (script_place (cast x.plan) t.0) steps).state ≡ Some (target p.phase) =
      ap (λ (q : Progress). q.state) H.told ∙ ((H.so).state ∙ last_at_four p.phase (p.stage t.0) k e (all t.0 t.1))
      in
      subst (λ (n : ℕ). (told_by n steps).state ≡ Some (target p.phase)) t.2 here

  -- of a component of which the end of its stream was told
  pub end_at : (c : ℕ) → c < components_of (cast x.plan) → p.told c ≡ true → (told_by (script_place (cast x.plan) c) steps).eos ≡ true
  end_at c b t = let H = heard_at c b in ap (λ (q : Progress). q.eos) H.told ∙ ((H.so).eos ∙ t)

  -- of a late source whose announcement was told
  pub settings_at : (l : ℕ) → l < links_of (cast x.plan) → (layout_of x.plan).is_late l ≡ true → 2 ≤ (p.change l).step → is_some (told_by (script_place (cast x.plan) (giver_of (cast x.plan) l)) steps).settings ≡ true
  settings_at l b t m =
      let H = heard_at (giver_of (cast x.plan) l) (end_inside (play_cast_of x.plan) Z.recent p Z.world (Z.conducted).play true l b) in
      ap (λ (q : Progress). is_some q.settings) H.told ∙ ((H.so).settings l (record { below = b; given_by = refl }) t ∙ le-leb 2 (p.change l).step m)

  -- an end of the link that was changed last: what was told of its port last
  pub port_told : Z.recent < links_of (cast x.plan) → (layout_of x.plan).is_late Z.recent ≡ true → (output : Bool) (completion : Completion)
      → told_of_port (port_at output (p.change Z.recent)) (port_number (cast x.plan) output Z.recent) ≡ Some completion
      → (told_by (script_place (cast x.plan) (component_at (layout_of x.plan) output Z.recent)) steps).port ≡ Some completion
  port_told b t output completion e =
      let H = heard_at (component_at (layout_of x.plan) output Z.recent) (end_inside (play_cast_of x.plan) Z.recent p Z.world (Z.conducted).play output Z.recent b) in
      ap (λ (q : Progress). q.port) H.told ∙ ((H.so).port output b refl t (ap (λ (o : Option Completion). is_some o) e) ∙ e)
