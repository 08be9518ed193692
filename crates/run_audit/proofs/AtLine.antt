-- A line passes each test or stops at one, by what comes of its act.
use Rattle.std.proofs.Common.{◌≡◌, ◌≤◌, inl, inr, ℕ, true, List, length, refl, sym, ◌∙◌, ap, subst, Bool}
use Rattle.std.specs.Prelude.{Vec}
use Rattle.std.specs.declared.alloc.Global.{Global}
use Rattle.omx_types.specs.declared.fault.AuditWhy.TheVariants.{BadLine, OtherAct}
use Rattle.il_machine.specs.declared.answer.Progress.{Progress}
use Rattle.il_machine.specs.World.{World}
use Rattle.act_text.specs.declared.act.TextAct.{TextAct}
use Rattle.act_text.specs.declared.act.TextAct.TheVariants as lines
use Rattle.play_forms.specs.Plans.{PlanValue}
use Rattle.play_log.specs.Lines.{LogLine}
use Rattle.script_lang.specs.declared.play_line.PartLine.{PartLine}
use Rattle.compared_files.specs.Comparing.{ComparingValue}
use Rattle.graph_acts.specs.Plain.{Sight}
use Rattle.audit_lines.specs.Lines.{IsOfPlay}
use Rattle.audit_order.specs.Asked.{is_asked}
use Rattle.audit_order.specs.Steps.{OrderValue}
use Rattle.audit_forms.specs.Audited.{Case, ComesNext, IsNext, Moment, after}
use Rattle.audit_forms.specs.Passing.{StopsAt}
use Rattle.audit_forms.specs.Told.{told_more}
use Rattle.run_audit.specs.declared.replay.Passed.{Passed}
use Rattle.run_audit.specs.declared.replay.Passed.TheVariants.{Failed, On, Stop}
use Rattle.run_audit.specs.declared.replay.Replay.{Replay}
use Rattle.run_audit.specs.Files.{FilesGoOn}
use Rattle.run_audit.specs.Leading.{IsLinePassed, IsPassed, IsReturn, IsSince, IsSinceMoment, Leads, ShowsIts, StandsIn, has_failed}
use Rattle.run_audit.specs.Replaying.{IsReplay}
use Rattle.run_audit.proofs.Heard.{more_long}
use Rattle.run_audit.proofs.Lined.{not_allowed, not_of_play, passes_here, stops_here}

return_unasked : (t : TextAct) → IsReturn t → is_asked t ≡ true → ⊥
return_unasked (lines.Finish component) R e = cc
return_unasked (lines.End component) R e = cc
return_unasked t R e = absurd R

module _ {S C : Type 0} (see : Sight S (ComparingValue S) C) (old mid : Replay S C) (rest : mid ≡ record old { order = mid.order }) where
  mid_stands : (tells : Bool) (x : Case) (w : World) → StandsIn see tells old x w → StandsIn see tells mid x w
  mid_stands tells x w I = subst (λ (r : Replay S C). StandsIn see tells r x w) (sym rest) I

  -- it may be told of the replay before the order went on
  pub mid_files : (failed : Bool) (new : Replay S C) → FilesGoOn see failed mid new → FilesGoOn see failed old new
  mid_files failed new F = subst (λ (r : Replay S C). FilesGoOn see failed r new) rest F

  pub mid_shows : (passed : Passed) (new : Replay S C) → ShowsIts see passed mid new → ShowsIts see passed old new
  mid_shows On new F = tt
  mid_shows (Stop why) new F = tt
  mid_shows (Failed component fault) new F = subst (λ (r : Replay S C). ShowsIts see (Failed component fault) r new) rest F

  module _ (tells : Bool) (x : Case) (at : Moment) (I : IsReplay see tells old x at) where
    pub stands_mid : StandsIn see tells mid x at.world
    stands_mid = mid_stands tells x at.world I.standing

    module _ (line : LogLine) where
      as_told : (next : OrderValue) → ComesNext old.plan old.told.items old.order (line.said).act next → IsNext x at (line.said).act next
      as_told next H =
          subst (λ (o : OrderValue). ComesNext x.plan at.told o (line.said).act next) I.order
          (subst (λ (t : List Progress). ComesNext x.plan t old.order (line.said).act next) I.told
          (subst (λ (p : PlanValue). ComesNext p old.told.items old.order (line.said).act next) (sym (I.standing).plan_is) H))

      of_told : (next : OrderValue) → IsNext x at (line.said).act next → ComesNext old.plan old.told.items old.order (line.said).act next
      of_told next H =
          subst (λ (p : PlanValue). ComesNext p old.told.items old.order (line.said).act next) (I.standing).plan_is
          (subst (λ (t : List Progress). ComesNext x.plan t old.order (line.said).act next) (sym I.told)
          (subst (λ (o : OrderValue). ComesNext x.plan at.told o (line.said).act next) (sym I.order) H))

      module _ (number : ℕ) (piece : List ℕ) (of_play : IsOfPlay number piece line) where
        pub other_act : ((next : OrderValue) → ComesNext old.plan old.told.items old.order (line.said).act next → ⊥) → StopsAt x number at piece OtherAct
        other_act n = not_allowed x number at piece line of_play (λ next H. n next (of_told next H))

        module _ (yes : ComesNext old.plan old.told.items old.order (line.said).act mid.order) (new : Replay S C) (passed : Passed) (L : Leads see mid new line.said passed) where
          allowed : IsNext x at (line.said).act mid.order
          allowed = as_told mid.order yes

          its : IsPassed see tells new x at line passed
          its = L.line tells x at line refl stands_mid I.written

          order_now : IsNext x at (line.said).act new.order
          order_now = subst (λ (o : OrderValue). IsNext x at (line.said).act o) (sym L.order) allowed

          -- what goes back needs no asking
          order_stays : IsReturn (line.said).act → IsNext x at (line.said).act mid.order → new.order ≡ at.order
          order_stays R (inl H) = L.order ∙ H.1
          order_stays R (inr H) = absurd (return_unasked (line.said).act R H.0)

          since : (v : World) → IsSince x (line.said).act at.world v → IsSinceMoment new.order x at v
          since v (inl m) = inr ((line.said).act, order_now, inl m)
          since v (inr (e, inl none)) = inr ((line.said).act, order_now, inr (e, none))
          since v (inr (e, inr R)) = inl (e, order_stays R allowed)

          pub line_stands : (v : World) × StandsIn see tells new x v × IsSinceMoment new.order x at v
          line_stands = let y = L.stands tells x at.world stands_mid in (y.0, y.1, since y.0 y.2)

          pub line_files : FilesGoOn see (has_failed passed) old new
          line_files = mid_files (has_failed passed) new (L.files tells x at.world stands_mid)

          pub plan_same : new.plan ≡ old.plan
          plan_same = L.plan ∙ ap (λ (r : Replay S C). r.plan) rest

          pub handles_same : new.handles ≡ old.handles
          handles_same = L.handles ∙ ap (λ (r : Replay S C). r.handles) rest

        -- ---- it stops

        pub line_stops : (yes : ComesNext old.plan old.told.items old.order (line.said).act mid.order) (new : Replay S C) (passed : Passed) → Leads see mid new line.said passed → (passed ≡ On → ⊥) → IsLinePassed see tells new x number at piece passed
        line_stops may new On L n = absurd (n refl)
        line_stops may new (Stop why) L n = λ told. stops_here see tells told x number at piece line of_play mid.order (allowed may new (Stop why) L) new why (its may new (Stop why) L)
        line_stops may new (Failed component fault) L n =
            let p = its may new (Failed component fault) L in
            record { line = line; of_play = of_play; order = mid.order; allowed = allowed may new (Failed component fault) L; there = p.0; brings = p.1 }

        -- ---- it passes, and is told

        module _ (yes : ComesNext old.plan old.told.items old.order (line.said).act mid.order) (new : Replay S C) (L : Leads see mid new line.said On) (told : Vec Progress Global) (heard : told.items ≡ told_more line.said (new.plan).parts new.told.items) where
          abbrev then : Replay S C
          then = record new { told = told }

          parts_same : (new.plan).parts ≡ (x.plan).parts
          parts_same = ap (λ (p : PlanValue). p.parts) (plan_same yes new On L ∙ sym (I.standing).plan_is)

          told_same : new.told.items ≡ at.told
          told_same = ap (λ (v : Vec Progress Global). v.items) (L.told ∙ ap (λ (r : Replay S C). r.told) rest) ∙ I.told

          tells_so : told.items ≡ told_more line.said (x.plan).parts at.told
          tells_so = heard ∙ (ap (λ (ps : List PartLine). told_more line.said ps new.told.items) parts_same ∙ ap (told_more line.said (x.plan).parts) told_same)

          pub line_passes : IsLinePassed see tells then x number at piece On
          line_passes =
              let p = its yes new On L in
              let few : length (new.plan).parts ≤ 32 = subst (λ (q : PlanValue). length q.parts ≤ 32) (sym (plan_same yes new On L)) I.few in
              let long : length at.told ≡ length (x.plan).parts = I.many_told ∙ ap (λ (q : PlanValue). length q.parts) (sym (I.standing).plan_is) in (
                after at line x mid.order p.1.0,
                passes_here see tells x number at piece line of_play mid.order (allowed yes new On L) new p,
                record {
                  standing = p.1.2;
                  written = p.1.3;
                  few = few;
                  many_told = more_long line.said (x.plan).parts at.told long ∙ ap length (sym parts_same);
                  told = tells_so;
                  order = L.order;
                },
              )

pub bad_line : (x : Case) (number : ℕ) (at : Moment) (piece : List ℕ) → ((line : LogLine) → IsOfPlay number piece line → ⊥) → StopsAt x number at piece BadLine
bad_line x number at piece n = not_of_play x number at piece n
