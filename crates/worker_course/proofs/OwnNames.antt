-- The components of a play's script have names of their own, so its gates tell of them.
use Rattle.std.proofs.Common.{ℕ, List, Option, subst}
use Rattle.outside_io.specs.Files.{Outside}
use Rattle.script_lang.specs.PlayScripts.{IsPlayScript}
use Rattle.script_lang.specs.declared.play_line.PartLine.{PartLine}
use Rattle.script_lang.specs.declared.script.Script.{Script}
use Rattle.play_forms.specs.Plans.{IsPlanOfScript, PlanValue}
use Rattle.play_log.specs.Scenes.{HaveOwnNames}
use Rattle.play_result_laws.specs.Gates.{GatesTellLog}
use Rattle.play_result_laws.proofs.OwnNames.{own_names}
use Rattle.play_course.specs.Outcomes.{HoldsTold}
use Rattle.play_course.specs.Settling.{parts_of}
use Rattle.play_course.proofs.Logged.{parts_so}

pub names_own : (name log text : List ℕ) (script : Script) → IsPlayScript name log text script → (plan : PlanValue) → IsPlanOfScript script plan → HaveOwnNames (parts_of script)
names_own name log text script S plan P = subst HaveOwnNames (parts_so script plan P) (own_names name log text script plan S P)

pub told_own : {G : Type 0} (counts : G → Option (ℕ → ℕ)) (gates : List G) (parts : List PartLine) (log : List ℕ) (new : Outside) → HaveOwnNames parts
    → HoldsTold (λ (text : List ℕ). HaveOwnNames parts → GatesTellLog counts gates parts text) log new → HoldsTold (GatesTellLog counts gates parts) log new
told_own counts gates parts log new own (text, is, told) = (text, is, told own)
