-- The log of a whole play.
use Rattle.std.proofs.Common.{◌≡◌, ℕ, Bool, true, not, All, List, [], ◌∷◌, refl, sym, ◌∙◌, ap, subst}
use Rattle.std.specs.Prelude.{cond}
use Rattle.std.proofs.lemmas.List.Elements.{All-filter, All-head, All-tail}
use Rattle.outside_io.specs.Files.{Outside}
use Rattle.il_machine.specs.World.{World}
use Rattle.play_forms.specs.Plans.{PlanValue}
use Rattle.play_plan_laws.specs.Assemblies.{PlayFiles}
use Rattle.play_log.specs.Entries.{Entry, is_unprinted, printed, steps_of}
use Rattle.play_log.specs.Kept.{LogValue}
use Rattle.play_log.specs.Logged.{IsLogged, Keeps}
use Rattle.play_log.specs.Scenes.{Scene, scene_of}
use Rattle.play_log.proofs.Names.{logged_names}
use Rattle.play_result_laws.specs.Asked.{IsConducted, tuned}
use Rattle.play_result_laws.specs.Results.{IsLogOf}
use Rattle.play_run.specs.Logging.{HaveWritten, IsKeptTo, IsNamedTo}
use Rattle.play_run.specs.Asking.{handles_of}
use Rattle.play_run.specs.Recording.{IsByPlayer, IsPrinted}

-- each has a line
all_printed : (history : List Entry) → All IsPrinted history → printed history ≡ history
all_printed [] A = refl
all_printed (entry ∷ history) A =
    let e : not (is_unprinted entry.reply) ≡ true = ap (λ (b : Bool). not b) (All-head IsPrinted entry history A) in
    let rest = all_printed history (All-tail IsPrinted entry history A) in
    ap (λ (b : Bool). cond b (entry ∷ printed history) (printed history)) e ∙ ap (λ (es : List Entry). entry ∷ es) rest

pub kept_names : (plan : PlanValue) (files : PlayFiles) (log : LogValue) (text : List ℕ) (ending : World) → IsKeptTo plan files log ending → ((s : Scene) (history : List Entry) → Keeps s history log → IsLogged s history text) → IsNamedTo plan files text ending
kept_names plan files log text ending K logged =
    let s = scene_of plan.parts K.opening in
    let B = K.begins in
    record {
      opening = K.opening;
      opens = B.opens;
      entries = printed K.history;
      logged = subst (λ (es : List Entry). IsLogged s es text) (sym (all_printed K.history K.printed)) (logged s K.history K.keeps);
      names = logged_names s K.opening ending K.history text ((B.opens).1).sound B.closed K.runs K.whole (logged s K.history K.keeps);
      alone = All-filter (λ (entry : Entry). not (is_unprinted entry.reply)) IsByPlayer K.history K.alone;
      conducted = subst (λ (es : List Entry). IsConducted (tuned plan files) (handles_of K.opening) (steps_of es)) (sym (all_printed K.history K.printed)) K.conducted;
      ends = K.ends;
    }

pub named_joins : (plan : PlanValue) (files : PlayFiles) (new : Outside) (text : List ℕ) (ending : World) → IsNamedTo plan files text ending → HaveWritten plan.parts new ending → IsLogOf 0 plan files new text
named_joins plan files new text ending N written = record {
  ending = ending;
  log = record { opening = N.opening; entries = N.entries; opens = N.opens; logged = N.logged; names = N.names; made = N.alone; conducted = N.conducted };
  ends = record { played = N.ends; sinks = written };
}
