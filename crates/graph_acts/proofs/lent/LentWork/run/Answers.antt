use Rattle.std.proofs.Common.{◌≡◌, ℕ, List, Option, ◌∙◌, sym, ap, subst}
use Rattle.omx_types.specs.declared.fault.PartFault.{PartFault}
use Rattle.part_api.specs.Terms.{Terms}
use Rattle.il_machine.specs.Claims.{CarriedHeader}
use Rattle.il_machine.specs.Whole.{PartSeen}
use Rattle.audio_parts.specs.Shown.{shown_by}
use Rattle.il_flow.specs.Places.{carried_from}
use Rattle.il_flow.specs.Works.{ComesBack}
use Rattle.il_graph.proofs.Back.{seen_as}
use Rattle.graph_acts.specs.Hiding.{shown_done, shown_work}
use Rattle.graph_acts.specs.Working.{IsRunOf, out_of}
use Rattle.graph_acts.proofs.lent.LentWork.run.Goals as goal

-- the same told otherwise
step_as : (before after : List CarriedHeader) (component frames : ℕ) (fault : Option PartFault) (t u : Terms) (p q old new : PartSeen) → t ≡ u → p ≡ old → q ≡ new → ComesBack t before p component frames fault after q → ComesBack u before old component frames fault after new
step_as before after component frames fault t u p q old new a b d h =
    subst (λ (x : Terms). ComesBack x before old component frames fault after new) a
    (subst (λ (x : PartSeen). ComesBack t before x component frames fault after new) b
    (subst (λ (x : PartSeen). ComesBack t before p component frames fault after x) d h))

pub returns : goal.returns
returns g c =
    let run = c.run.ensures in
    let part = c.law_of_parts.ensures in
    let f = shown_by g.S.Source.told g.K.Sink.told g.K.Sink.name in
    let work = c.self.inside.work in
    let done = c.run.result in
    let old = seen_as (f work.part) _ _ _ _ (sym (part.left work.part)) (sym (part.rest work.part)) (sym (part.kept work.part)) (sym (part.writing work.part)) in
    let new = seen_as (f done.part) _ _ _ _ (sym (part.left done.part)) (sym (part.rest done.part)) (sym (part.kept done.part)) (sym (part.writing done.part)) in
    let is : IsRunOf g.S.Source g.K.Sink (out_of (shown_work f work)) (shown_done f done) = record {
      component = run.component;
      announces = run.announces;
      terms = sym (part.terms done.part) ∙ (run.terms ∙ part.terms work.part);
      same = run.same;
      step = λ a. step_as (carried_from 0 work.headers) (carried_from 0 done.headers) done.component.generation done.frames done.fault _ _ _ _ _ _ (part.terms work.part) old new (run.step a);
      failed = λ a. sym (part.failed done.part) ∙ run.failed a;
      announced = run.announced;
      unstepped = λ a. ap f (run.unstepped a);
      object = run.kept;
      shows = run.shows;
    } in
    subst (λ w. IsRunOf g.S.Source g.K.Sink (out_of w) (shown_done f done)) c.self.view_is is
