use Rattle.std.proofs.Common.{◌≡◌, ◌∙◌, sym, ap, subst, refl, false, Result}
use Rattle.omx_types.specs.declared.error.OmxError.{OmxError}
use Rattle.il_machine.specs.Claims as machine
use Rattle.il_machine.specs.Claims.{Claim}
use Rattle.il_graph.specs.Claiming.{IsSoFar}
use Rattle.il_graph.proofs.Back.{seen_as}
use Rattle.audio_parts.specs.Shown.{shown_by}
use Rattle.graph_acts.specs.Lending.{OnLent, claimed_as, lent_as}
use Rattle.graph_acts.specs.declared.act.Act.TheVariants as asks
use Rattle.graph_acts.specs.declared.act.Reply.TheVariants as replies
use Rattle.graph_acts.specs.Objects.{MovesObjects}
use Rattle.graph_acts.specs.Plain.{sight_of}
use Rattle.graph_acts.proofs.Acts.{headers_stay, clients_stay}
use Rattle.graph_acts.proofs.WorkActs.{WasClaimed, at_work, claim_works, lent_told, on_lent}
use Rattle.graph_acts.proofs.ObjectActs.{claimed_objects, on_work}
use Rattle.graph_acts.proofs.served.Served.claim.Goals as goal

pub returns : goal.returns
returns g c =
    let e = c.claim.ensures in
    let part = c.law_of_parts.ensures in
    let h = c.args.h in
    let answer = c.claim.result in
    let result = c.lend.result in
    let old = c.args.self.now.graph in
    let new = c.claim.new.self in
    let see = sight_of g.C.Client g.S.Source g.K.Sink in
    let f = shown_by g.S.Source.told g.K.Sink.told g.K.Sink.name in
    let is : result ≡ lent_as f answer = c.lend.ensures in record {
      step = λ w s u k m.
          let y = e.step u.terms k w s in (
            y.0,
            y.1,
            subst (λ (r : Result machine.Claimed OmxError). Claim w h r y.0) (sym (ap (claimed_as u.terms) is ∙ lent_told f u.terms answer)) y.2.0,
          );
      replied = tt;
      sized = tt;
      headers = headers_stay old new e.held;
      clients = clients_stay old new e.clients;
      objects = subst (λ r. MovesObjects (asks.Claim h) (replies.Claim r) old new) (sym is) (claimed_objects f (λ it. refl) h answer old new e.component e.file (on_work answer _ (λ work. (f work.part).failed ≡ false) (λ work h. sym (part.failed work.part) ∙ h) e.whole) e.gone e.files e.clients e.unchanged);
      leaves = λ x gone w s u. (refl, refl);
      told = λ u. tt;
      works = λ w v S o n u so m step. claim_works see h old new u result
          (λ k. subst (λ r. OnLent r (WasClaimed see h old new u)) (sym is) (on_lent f answer (WasClaimed see h old new u) (λ work here. record {
            handle = at_work answer work _ here e.component;
            far = λ w s.
                let y = e.step u.terms k w s in (
                  y.0,
                  rw here at y.2.0,
                  subst (IsSoFar u.terms y.0 work.component.generation) (seen_as (f work.part) _ _ _ _ (sym (part.left work.part)) (sym (part.rest work.part)) (sym (part.kept work.part)) (sym (part.writing work.part))) (at_work answer work _ here y.2.1),
                );
            set_so = λ a. sym (part.terms work.part) ∙ at_work answer work _ here (e.terms u.terms k) a;
            its = rw (← part.terms work.part, ← part.failed work.part) (at_work answer work _ here e.its);
            whole = sym (part.failed work.part) ∙ at_work answer work _ here e.whole;
            lent = at_work answer work _ here e.lent;
          })))
          w v S o n so step;
    }
