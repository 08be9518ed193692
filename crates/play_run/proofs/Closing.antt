-- Where a play is over, its graph can be taken apart, and its log is that of the whole play.
use Rattle.std.proofs.Common.{◌≡◌, false, length, Result, Ok, Err, OnOk, sym, ◌∙◌, subst}
use Rattle.std.specs.Prelude.{IfErr, OnErr}
use Rattle.omx_types.specs.declared.fault.PartFault.{PartFault}
use Rattle.audio_parts.specs.Objects.{Held}
use Rattle.play_build_laws.specs.Dismantling.{AreLinks}
use Rattle.play_model.specs.Play.{Play}
use Rattle.play_model.specs.Reached.{IsOver}
use Rattle.play_loop.specs.Turns.{AreOver, SomePlay}
use Rattle.play_log.specs.Kept.{LogValue}
use Rattle.play_plan_laws.specs.Assemblies.{PlayFiles}
use Rattle.play_plan_laws.specs.Endings.{HasEnded, IsPlayedOut, ends_of}
use Rattle.play_graph.specs.Ending.{StandsFor}
use Rattle.play_turn_laws.proofs.Planned.{plan_links, plan_over}
use Rattle.play_run.specs.declared.failure.Stop.{Stop}
use Rattle.play_run.specs.declared.failure.Stop.TheVariants as stops
use Rattle.play_run.specs.Closing.{HasBegun, HasPlayed, HasPlayedWith, KeepsLog}
use Rattle.play_run.specs.Logging.{IsKeptTo}
use Rattle.play_run.specs.Playing.{FilesStay, IsPlaying, IsStanding, LeadsOn, PlayingValue, layout_of}
use Rattle.play_run.specs.Turning.{BreaksOff, FilesStayed, HasBrokenOff, HasBrokenOffWith, StopShows}
use Rattle.play_run.proofs.Asked.{all_asked}

pub played_out : {S K : Type 0} (x : PlayingValue S K) (p : Play) (Z : IsStanding x p) → IsOver (layout_of x.plan) p → IsPlayedOut x.plan Z.world
played_out x p Z over = plan_over x.plan Z.recent p Z.world Z.valid (Z.conducted).play over

module _ {S K : Type 0} (x : PlayingValue S K) where
  pub keeps_log : (log : LogValue) → log ≡ x.log → KeepsLog x log
  keeps_log log e = λ p Y over.
      let Z = Y.standing in
      let R = Z.recorded in
      subst (λ (l : LogValue). IsKeptTo x.plan Z.files l Z.world) (sym e) (record {
        opening = Z.opening;
        begins = Z.begins;
        history = R.history;
        runs = R.runs;
        alone = R.alone;
        whole = R.whole;
        conducted = all_asked x p Y over;
        printed = R.printed;
        keeps = R.keeps;
        ends = played_out x p Z over;
      })

  pub stands_ended : HasPlayed x → StandsFor (HasEnded x.plan) x.graph
  stands_ended (p, Y, over) = (Y.standing.world, Y.standing.stands, (played_out x p Y.standing over).ended)

  pub play_links : HasPlayed x → AreLinks (ends_of x.plan) (length x.plan.joints)
  play_links (p, Y, over) = let Z = Y.standing in plan_links x.plan Z.recent p Z.world Z.valid (Z.conducted).play

-- where each of its plays is over, that which began with the files is
pub has_played : {S K E : Type 0} (Stays : Held S K → Held S K → Type 0) (old new : PlayingValue S K) (r : Result (Unit {0}) E) → OnOk r (AreOver (layout_of new.plan) (IsPlaying new)) → OnOk r (LeadsOn Stays old new) → OnOk r ((given : PlayFiles) → HasBegun old given → HasPlayedWith new given)
has_played Stays old new (Ok done) over leads = λ given begun. let q = leads.plays begun.0 begun.1 in (q.0, q.1, over q.0 q.1, q.2 ∙ begun.2)
has_played Stays old new (Err e) over leads = tt

-- where it broke off, it did so in one that began with the same files
pub has_broken_off : {S K : Type 0} (Stays : Held S K → Held S K → Type 0) (Shows : PartFault → Held S K → Held S K → Type 0) (old new : PlayingValue S K) (r : Result (Unit {0}) Stop) → SomePlay (IsPlaying old) → IfErr r (BreaksOff Stays Shows old new) → IfErr r (HasBrokenOff new)
has_broken_off Stays Shows old new (Ok done) some breaks = tt
has_broken_off Stays Shows old new (Err (stops.Failed failure)) (p, Y) breaks = (breaks.fails p Y).0
has_broken_off Stays Shows old new (Err stops.OutOfMemory) (p, Y) breaks = let q = (breaks.0).plays p Y in ((q.0, q.1), breaks.1)

pub has_broken_off_with : {S K : Type 0} (Stays : Held S K → Held S K → Type 0) (Shows : PartFault → Held S K → Held S K → Type 0) (old new : PlayingValue S K) (r : Result (Unit {0}) Stop) → IfErr r (BreaksOff Stays Shows old new)
    → IfErr r (λ stop. (given : PlayFiles) → HasBegun old given → HasBrokenOffWith new stop given)
has_broken_off_with Stays Shows old new (Ok done) breaks = tt
has_broken_off_with Stays Shows old new (Err (stops.Failed failure)) breaks = λ given begun. let F = breaks.fails begun.0 begun.1 in (F.0, F.1 ∙ begun.2)
has_broken_off_with Stays Shows old new (Err stops.OutOfMemory) breaks = λ given begun. let q = (breaks.0).plays begun.0 begun.1 in (q.0, q.1, q.2 ∙ begun.2)

-- so does the plan
pub plan_stays : {S K : Type 0} (Stays : Held S K → Held S K → Type 0) (Shows : PartFault → Held S K → Held S K → Type 0) (old new : PlayingValue S K) (r : Result (Unit {0}) Stop) → OnOk r (LeadsOn Stays old new) → IfErr r (BreaksOff Stays Shows old new) → new.plan ≡ old.plan
plan_stays Stays Shows old new (Ok done) leads breaks = leads.plan
plan_stays Stays Shows old new (Err (stops.Failed failure)) leads breaks = breaks.plan
plan_stays Stays Shows old new (Err stops.OutOfMemory) leads breaks = (breaks.0).plan

-- the file objects stay in both cases
pub objects_played : {S K E : Type 0} (Stays : Held S K → Held S K → Type 0) (old new : PlayingValue S K) (r : Result (Unit {0}) E) → OnOk r (LeadsOn Stays old new) → OnOk r (FilesStay Stays old new)
objects_played Stays old new (Ok done) leads = leads.objects
objects_played Stays old new (Err e) leads = tt

pub objects_broken_off : {S K : Type 0} (Stays : Held S K → Held S K → Type 0) (Shows : PartFault → Held S K → Held S K → Type 0) (old new : PlayingValue S K) (r : Result (Unit {0}) Stop) → IfErr r (BreaksOff Stays Shows old new) → OnErr r (FilesStayed Stays old new)
objects_broken_off Stays Shows old new (Ok done) breaks = tt
objects_broken_off Stays Shows old new (Err (stops.Failed failure)) breaks = breaks.objects
objects_broken_off Stays Shows old new (Err stops.OutOfMemory) breaks = λ n. (false, (breaks.0).objects n)

pub stop_shows : {S K : Type 0} (Stays : Held S K → Held S K → Type 0) (Shows : PartFault → Held S K → Held S K → Type 0) (old new : PlayingValue S K) (r : Result (Unit {0}) Stop) → IfErr r (BreaksOff Stays Shows old new) → IfErr r (StopShows Shows old new)
stop_shows Stays Shows old new (Ok done) breaks = tt
stop_shows Stays Shows old new (Err (stops.Failed failure)) breaks = breaks.shows
stop_shows Stays Shows old new (Err stops.OutOfMemory) breaks = tt
