-- A play with late sources begins.
use Rattle.std.proofs.Common.{◌≡◌, ℕ, false, List, length, refl, arith}
use Rattle.omx_types.specs.declared.handle.Handle.{Handle}
use Rattle.il_machine.specs.Run.{Run}
use Rattle.il_machine.specs.World.{World, no_world}
use Rattle.play_build_laws.specs.Building.{building}
use Rattle.play_build_laws.specs.Stages.{IsStage, Joining}
use Rattle.play_build_laws.proofs.Building.{built_so}
use Rattle.play_forms.specs.Plans.{PlanValue}
use Rattle.play_world_laws.specs.Openings.{opening}
use Rattle.play_plan_laws.specs.Assemblies.{IsReady, PlayFiles, assembly_of, play_cast_of}
use Rattle.play_plan_laws.proofs.Lawful.{plan_lawful}
use Rattle.play_plan_laws.proofs.Opened.{assembled_opens}
use Rattle.play_world_laws.specs.PlayWorlds.{IsPlayWorld}
use Rattle.play_world_laws.proofs.Opened.{play_opens}
use Rattle.play_world_laws.specs.Waiting.{IsWaiting}
use Rattle.conductor.specs.Casting as conductors
use Rattle.play_turn_laws.proofs.Casting.{plan_begins}
use Rattle.play_turn_laws.specs.Playing.{IsBetweenTurns}

pub play_begins : (plan : PlanValue) (files : PlayFiles) (handles : List Handle) (recent : ℕ) (w : World) → IsReady plan files → IsStage (assembly_of plan files) (Joining (length plan.joints)) handles w
    → IsPlayWorld (play_cast_of plan) recent opening w × IsWaiting ((play_cast_of plan).cast).layout opening
play_begins plan files handles recent w R S = (play_opens (play_cast_of plan) recent w (assembled_opens plan files handles w R S), λ l b t e s. refl)

pub play_built : (plan : PlanValue) (files : PlayFiles) (key : ℕ) (handles : List Handle) (recent : ℕ) (w : World) → IsReady plan files → length handles ≡ length plan.parts → Run (no_world key plan.units) (building (assembly_of plan files) handles) w
    → IsPlayWorld (play_cast_of plan) recent opening w × IsWaiting ((play_cast_of plan).cast).layout opening
play_built plan files key handles recent w R m r = play_begins plan files handles recent w R (built_so (assembly_of plan files) key handles w (plan_lawful plan files R) m r)

-- with its conductor
pub begins_playing : (plan : PlanValue) (files : PlayFiles) (handles : List Handle) (recent : ℕ) (w : World) → IsReady plan files → IsStage (assembly_of plan files) (Joining (length plan.joints)) handles w
    → IsBetweenTurns (play_cast_of plan) recent opening w (conductors.cast_of plan)
begins_playing plan files handles recent w R S =
    let B = play_begins plan files handles recent w R S in
    let D = plan_begins plan (λ l. false) recent opening R.valid refl (λ l. refl) in
    record {
      standing = record { play = B.0; waiting = B.1; conducting = D.0 };
      sent = λ c b e. absurd (omega (arith, e));
      carried = D.1;
    }
