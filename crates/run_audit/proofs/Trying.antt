-- An act is tried: it is made where it comes next.
use Rattle.std.proofs.Common.{◌≡◌, Bool, true, List, sym, subst}
use Rattle.il_machine.specs.declared.answer.Progress.{Progress}
use Rattle.il_machine.specs.World.{World}
use Rattle.act_text.specs.declared.act.TextAct.{TextAct}
use Rattle.play_forms.specs.Plans.{PlanValue}
use Rattle.compared_files.specs.Comparing.{ComparingValue}
use Rattle.graph_acts.specs.Plain.{Sight}
use Rattle.audit_order.specs.Steps.{OrderValue}
use Rattle.audit_forms.specs.Audited.{Case}
use Rattle.run_audit.specs.declared.replay.Replay.{Replay}
use Rattle.run_audit.specs.Files.{FilesGoOn}
use Rattle.run_audit.specs.Leading.{StandsIn}
use Rattle.run_audit.specs.Leaving.{IsTried}

module _ {S : Type 0} (see : Sight S (ComparingValue S) Progress) (old new : Replay S Progress) (e : new ≡ record old { order = new.order }) where
  -- what was asked is nothing that stands
  pub stands_so : (tells : Bool) (x : Case) (w : World) → StandsIn see tells old x w → StandsIn see tells new x w
  stands_so tells x w I = subst (λ (r : Replay S Progress). StandsIn see tells r x w) (sym e) I

  pub files_so : (last : Replay S Progress) → FilesGoOn see true new last → FilesGoOn see true old last
  files_so last F = subst (λ (r : Replay S Progress). FilesGoOn see true r last) e F

pub tried_so : (p q : PlanValue) (t u : List Progress) (x : Case) (a b : TextAct) (order : OrderValue) (w : World) (next : OrderValue) (v : World) → p ≡ q → t ≡ u → a ≡ b → IsTried p t x a order w next v → IsTried q u x b order w next v
tried_so p q t u x a b order w next v e f h T =
    subst (λ (c : TextAct). IsTried q u x c order w next v) h
    (subst (λ (l : List Progress). IsTried q l x a order w next v) f
    (subst (λ (s : PlanValue). IsTried s t x a order w next v) e T))
