-- An announcing work comes back: the streams stay.
use Rattle.std.proofs.Common.{◌≡◌, ℕ, ◌<◌, Bool, true, false, if◌then◌else◌, List, [], ◌∷◌, ◌++◌, slice_get, option_and_then, Option, Some, None, MatchOption, refl, sym, ◌∙◌, ap, subst}
use Rattle.omx_types.specs.declared.command.Event.TheVariants.{PortSettingsChanged}
use Rattle.omx_types.specs.declared.command.Note.TheVariants.{Told}
use Rattle.il_machine.specs.declared.port.Port.{Port}
use Rattle.il_machine.specs.declared.port.PortKey.{PortKey}
use Rattle.il_machine.specs.declared.port.PortState.{PortState}
use Rattle.il_machine.specs.Due.{ClosesTo}
use Rattle.il_machine.specs.Finishing.{Finish, announced, announced_at, finished, finished_by, with_landed}
use Rattle.il_machine.specs.Parts.{file_format}
use Rattle.il_machine.specs.Settings.{same_format}
use Rattle.il_machine.specs.Stepping.{WorkDone}
use Rattle.il_machine.specs.World.{Component, Picked, Work, World, changed_at, number_of, place_numbered, port_of, stream_of, with_component, with_port}
use Rattle.machine_laws.proofs.Finding.{either}
use Rattle.machine_laws.proofs.Keys.{at_there}
use Rattle.play_model.specs.Play.{Play}
use Rattle.play_world_laws.specs.View.{picked_at, worked_at}
use Rattle.play_world_laws.specs.Cast.{Cast, components_of, input_at, output_at, script_place}
use Rattle.play_world_laws.specs.Wiring.{work_in}
use Rattle.play_world_laws.proofs.Ends.{place_there}
use Rattle.play_world_laws.proofs.Lists.{got_set}
use Rattle.play_stream_laws.specs.Contents.{PlayContents}
use Rattle.play_stream_laws.specs.Flowing.{bytes_on}
use Rattle.play_stream_laws.proofs.Closing.{closes_keep, flow_twice, keeps_twice, one_keeps, parts_kept}
use Rattle.play_stream_laws.proofs.Keeping.{Keeps, KeepsFlow, seat}
use Rattle.play_world_laws.specs.PlayWorlds.{IsPlayWorld, PlayCast}
use Rattle.play_world_laws.proofs.Announced.{announce_can}
use Rattle.play_stream_laws.specs.PlayStreams.{HasPlayStreams}
use Rattle.play_stream_laws.proofs.PlayClosing.{IsCalm, IsCalmAt, calm_same, calm_set, calm_there, calm_world, closes_calm, one_calm}
use Rattle.play_stream_laws.proofs.PlayKeeping.{contents_kept, stays, streams_kept}

-- ---- the component

record IsBeside (a b : Component) : Type 0 where
  seat : seat b ≡ seat a
  part : b.part ≡ a.part
  work : b.work ≡ None
  calm : IsCalmAt a → IsCalmAt b

announced_beside : (a : Component) → IsBeside a (announced a)
announced_beside a = by_port (port_of a 0) refl
  where
    free : Component
    free = record a { work = None }

    by_port : (o : Option Port) → port_of a 0 ≡ o → IsBeside a (announced_at o free)
    by_port None e = record { seat = refl; part = refl; work = refl; calm = calm_same a free refl refl }
    by_port (Some q) e =
        let s : PortState = record q.state { held = true } in
        let held : Component = record (with_port q.key.port s free) { notes = free.notes ++ Told (PortSettingsChanged q.key.port) ∷ [] } in
        let is : (b : Bool) → same_format q.setting.definition.format (file_format a.file) ≡ b → announced_at (Some q) free ≡ (if b then free else held) = λ b h. ap (λ (z : Bool). if z then free else held) h in
        either (same_format q.setting.definition.format (file_format a.file))
        (λ t. subst (IsBeside a) (sym (is true t)) (record { seat = refl; part = refl; work = refl; calm = calm_same a free refl refl }))
        (λ t. subst (IsBeside a) (sym (is false t)) (record {
          seat = refl;
          part = refl;
          work = refl;
          calm = λ Q. let k = calm_there a 0 q e Q in record { ports = calm_set a.ports q.key.port s (k.0, k.1) Q.ports; pending = Q.pending };
        }))

-- ---- the world

pub announced_is : (i : ℕ) (a : Component) (its : WorkDone) (w : World) (work : Work) → a.work ≡ Some work → work.announces ≡ true → finished i a its w ≡ with_component i (announced a) w
announced_is i a its w work f says =
    ap (λ (o : Option Work). finished_by i a its o w) f
    ∙ ap (λ (z : Bool). if z then with_component i (announced a) w else changed_at (stream_of (number_of a) w) w (λ u. with_landed i a its u w)) says

pub announced_keeps : (w : World) (i : ℕ) (a : Component) → slice_get w.components i ≡ Some a → Keeps w (with_component i (announced a) w)
announced_keeps w i a e = one_keeps w (with_component i (announced a) w) i a (announced a) e refl refl (announced_beside a).seat

module _ (w : World) (i : ℕ) (a : Component) (e : slice_get w.components i ≡ Some a) (work : Work) (f : a.work ≡ Some work) (none : work.headers ≡ []) where
  abbrev u : World
  u = with_component i (announced a) w

  B : IsBeside a (announced a)
  B = announced_beside a

  works_stay : (key : PortKey) → work_in u.components key ≡ work_in w.components key
  works_stay key =
      got_set (λ (o : Option Component). worked_at (option_and_then (λ y. y.work) o) key.port) w.components i key.component a (announced a) e
      (ap (λ (o : Option Work). worked_at o key.port) B.work ∙ sym (ap (λ (o : Option Work). worked_at o key.port) f ∙ ap (λ (xs : List Picked). picked_at key.port xs) none))

  pub announced_flow : (x : Cast) → KeepsFlow x w u
  announced_flow x = record { bytes = λ l d. let m = works_stay (input_at x l) in λ j. bytes_on (output_at x l) (input_at x l) (m j) w.headers; parts = parts_kept w u i a (announced a) e refl B.part }

  pub announced_calm : IsCalm w → IsCalm u
  announced_calm Q = one_calm w u i (announced a) refl (B.calm (Q i a e)) Q

-- ---- the call

-- what an announcing work leaves before the close-out
pub record IsAnnouncedBack (x : PlayCast) (w v : World) (c : ℕ) (a : Component) (work : Work) : Type 0 where
  pub none : work.headers ≡ []
  pub closes : ClosesTo (with_component (script_place x.cast c) (announced a) w) v

pub announced_back : (x : PlayCast) (recent : ℕ) (p : Play) (w v : World) (c : ℕ) (a : Component) (work : Work) (its : WorkDone) → IsPlayWorld x recent p w → c < components_of x.cast → slice_get w.components (script_place x.cast c) ≡ Some a → a.work ≡ Some work → work.announces ≡ true
    → its.component ≡ script_place x.cast c → Finish w its v → IsAnnouncedBack x w v c a work
announced_back x recent p w v c a work its W b e f says k F =
    let i : ℕ = script_place x.cast c in
    let A = W.actors c a b e in
    let place : place_numbered its.component w.components ≡ Some i = place_there w.numbered i its.component w.components a (W.sound).rising e (A.number ∙ sym k) in
    let F1 = at_there (place_numbered its.component w.components) (λ j. MatchOption (slice_get w.components j) ⊥ (λ y. ClosesTo (finished j y its w) v)) i place F in
    let closes = at_there (slice_get w.components i) (λ y. ClosesTo (finished i y its w) v) a e F1 in
    record {
      none = (announce_can x recent p w c a work W b e f says).3;
      closes = subst (λ (y : World). ClosesTo y v) (announced_is i a its w work f says) closes;
    }

pub announced_streams : (x : PlayCast) (k : PlayContents) (recent later : ℕ) (p q : Play) (w v : World) (c : ℕ) (a : Component) (work : Work) (its : WorkDone) → IsPlayWorld x recent p w → HasPlayStreams x k p w → IsPlayWorld x later q v → q.phase ≡ p.phase → c < components_of x.cast
    → slice_get w.components (script_place x.cast c) ≡ Some a → a.work ≡ Some work → work.announces ≡ true → its.component ≡ script_place x.cast c → Finish w its v → HasPlayStreams x k q v
announced_streams x k recent later p q w v c a work its W H V same b e f says h F =
    let i : ℕ = script_place x.cast c in
    let R = announced_back x recent p w v c a work its W b e f says h F in
    let u : World = with_component i (announced a) w in
    let K = keeps_twice w u v (announced_keeps w i a e) (closes_keep u v R.closes) in
    streams_kept x k recent later p q w v W V same (stays w v K)
    (λ two. flow_twice x.cast w u v (announced_flow w i a e work f R.none x.cast) (closes_calm x.cast u v (announced_calm w i a e work f R.none (calm_world x recent p w W two)) R.closes))
    (contents_kept x k w v K H.contents) H
