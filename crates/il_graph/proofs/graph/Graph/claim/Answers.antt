use Rattle.std.proofs.Common.{◌≡◌, ℕ, map, set, false, Option, Some, None, option_map, Ok, Err, refl, sym, ◌∙◌, ap, subst}
use Rattle.std.specs.Option.{option_copied}
use Rattle.omx_types.specs.declared.handle.Handle.{Handle}
use Rattle.omx_types.specs.declared.error.OmxError.{OmxError}
use Rattle.omx_types.specs.declared.error.OmxError.TheVariants as errors
use Rattle.il_machine.specs.World.{Component, World, number_of, stream_of}
use Rattle.il_machine.specs.Headers.{seen}
use Rattle.il_machine.specs.Look.{look}
use Rattle.il_machine.specs.Parts.{terms_of}
use Rattle.il_machine.specs.Answers.{component_named}
use Rattle.il_machine.specs.Claims.{Claim, Claimed, ClaimedWork, Claims, WorkSeen, claim_idle, must_announce, with_work, work_of}
use Rattle.il_machine.specs.Whole.{Stands}
use Rattle.il_machine.specs.Acts as acts
use Rattle.machine_laws.proofs.Claiming.{claim_passes}
use Rattle.stock_laws.proofs.Lists.{map_set}
use Rattle.port_rules.specs.Claiming.{claimed_by}
use Rattle.port_stock.specs.Kept.{stocked}
use Rattle.il_component.specs.Entries.{component_of}
use Rattle.stock_laws.specs.Bare.{StepsBare}
use Rattle.graph_core.specs.Claiming.{AreLent, HasFronts}
use Rattle.graph_core.specs.Entries.{component_at, components_of, look_of, kept as core_kept}
use Rattle.audio_parts.specs.declared.any_part.AnyPart.{AnyPart}
use Rattle.il_flow.specs.Places.{carried_from}
use Rattle.il_flow.specs.Works.{seen_work}
use Rattle.audio_parts.specs.Shown.{ShownPart, shown_by, terms_by}
use Rattle.il_graph.specs.Claiming.{IsSoFar}
use Rattle.il_graph.specs.Preparing.{MaySet, prepared_where}
use Rattle.il_graph.specs.Shown.{Shown, kept, seen_of}
use Rattle.il_graph.proofs.Back.{own_as}
use Rattle.il_graph.proofs.Calling.{Found, found, and_some, at_some, component_is, not_found}
use Rattle.il_graph.proofs.Clients.{own}
use Rattle.il_graph.proofs.Giving.{IsGiven, given, shown_done, terms_named, was_so_far}
use Rattle.il_graph.proofs.Going.{HasGone, claimed_at, gives_none, has_gone, lent_work, may_go, no_claim, no_work, told_so}
use Rattle.il_graph.proofs.HandedIn.{keeps_over}
use Rattle.il_graph.proofs.Holding.{IsSeated, is_sound, seat_there, seat_within, seated}
use Rattle.il_graph.proofs.Lasting.{lent_over}
use Rattle.il_graph.proofs.Ready.{either_of, may_set}
use Rattle.il_graph.proofs.Whole.{bare, whole_over}
use Rattle.il_graph.proofs.graph.Graph.claim.Given.{Over}
use Rattle.il_graph.proofs.graph.Graph.claim.Goals.{After-close_out}
use Rattle.il_graph.proofs.graph.Graph.claim.Goals as goal

pub returns-in_default-clause-step : goal.returns-in_default-clause-step
returns-in_default-clause-step g c =
    let p = g.C.Client.progress in
    let none = not_found p Claimed c.self.inside.core c.args.h (λ w v i k. Claims (claim_idle (look w) k) i k w (Err errors.InvalidComponent) v) c.in_default.ensures.place in
    rw (← c.self.view_is) (λ t A w s. let y = whole_over p _ c.self.inside.core (acts.Claim c.args.h) (acts.Claimed _) tt c.self.invariant.1 (λ w B. tt) none w s in (y.0, y.1, (y.2, tt)))

pub returns-in-Some-claim_idle-clause-step : goal.returns-in-Some-claim_idle-clause-step
returns-in-Some-claim_idle-clause-step g c =
    let p = g.C.Client.progress in let G = c.self.inside.core in
    let F : Found p G c.args.h c.in-Some.place = found p G c.args.h c.in-Some.place c.in-Some.ensures.place c.in-Some.ensures.within in
    let idle = c.in-Some-claim_idle.idle in
    rw (← c.self.view_is) (λ t A w s.
    let y = whole_over p _ G (acts.Claim c.args.h) (acts.Claimed (Ok (claimed_by idle))) (no_claim c.args.h idle) c.self.invariant.1 (λ w B. tt) (no_work p G c.args.h c.in-Some.place F (claimed_by idle) c.in-Some-claim_idle.ensures) w s in (
      y.0,
      y.1,
      (
        subst (λ (x : Claimed). Claim w c.args.h (Ok x) y.0) (sym (told_so c.without_work.result t idle c.without_work.ensures)) y.2,
        gives_none c.without_work.result OmxError _ idle c.without_work.ensures,
      ),
    ))

pub index_mut-requires : goal.index_mut-requires
index_mut-requires g c =
    let G = c.self.inside.core in
    let F : Found g.C.Client.progress G c.args.h c.in-Some.place = found g.C.Client.progress G c.args.h c.in-Some.place c.in-Some.ensures.place c.in-Some.ensures.within in
    seat_within g.C.Client.progress (shown_by g.S.Source.told g.K.Sink.told g.K.Sink.name) c.self.inside.parts.items G c.args.h c.in-Some.place F c.self.invariant.1 _ c.self.inside.parts.ok.0

pub unreachable-requires : goal.unreachable-requires
unreachable-requires g c =
    let p = g.C.Client.progress in let G = c.self.inside.core in
    let F : Found p G c.args.h c.in-Some.place = found p G c.args.h c.in-Some.place c.in-Some.ensures.place c.in-Some.ensures.within in
    let free = (claim_passes (look_of G) F.component (may_go p G c.args.h c.in-Some.place F c.in_default-claim_idle.ensures)).free in
    seat_there p (shown_by g.S.Source.told g.K.Sink.told g.K.Sink.name) c.self.inside.parts.items G c.args.h c.in-Some.place F c.self.invariant.1 free c.index_mut.result.now c.index_mut.ensures.value (sym c.take.ensures.value ∙ c.in_default-take.is)

pub unreachable-requires-in_default-at : goal.unreachable-requires-in_default-at
unreachable-requires-in_default-at g c =
    let F : Found g.C.Client.progress c.self.inside.core c.args.h c.in-Some.place = found g.C.Client.progress c.self.inside.core c.args.h c.in-Some.place c.in-Some.ensures.place c.in-Some.ensures.within in
    let z : option_copied c.at.result ≡ Some F.entry = c.at.ensures ∙ F.entry_at in
    let y : None ≡ Some F.entry = rw c.in_default-at.is at z in
    absurd cc

pub open-desk-requires : goal.open-desk-requires
open-desk-requires g c =
    let f = shown_by g.S.Source.told g.K.Sink.told g.K.Sink.name in
    let i = c.in-Some.place in
    let p = g.C.Client.progress in let G = c.self.inside.core in
    let F : Found p G c.args.h c.in-Some.place = found p G c.args.h c.in-Some.place c.in-Some.ensures.place c.in-Some.ensures.within in
    let ok = may_go p G c.args.h i F c.in_default-claim_idle.ensures in
    let T = seated p f c.self.inside.parts.items G c.args.h i F c.self.invariant.1 (claim_passes (look_of G) F.component ok).free c.index_mut.result.now c.index_mut.ensures.value c.in-Some-take.seat (sym c.take.ensures.value ∙ c.in-Some-take.is) in
    let same : F.component ≡ component_of c.in-Some-at.component.now = component_is p G c.args.h i F c.in-Some-at.component.now (rw c.in-Some-at.is at c.at.ensures) in
    let tells = at_some (λ k. c.must_announce-announces.result ≡ must_announce k) (component_at i G) F.component F.at c.must_announce-announces.ensures in
    λ e. subst (λ (k : Component). MaySet k (terms_by c.in-Some-take.seat)) same (may_set (look_of G) F.component (is_sound p _ c.self.invariant.1 i F.component F.at) ok (sym tells ∙ e) (f c.in-Some-take.seat) T.tied)

-- ---- what is known as the core has closed

module _ (g : Over) (c : After-close_out g) where
  abbrev shows : AnyPart g.row.S.Denot g.row.K.Denot g.S.Source g.K.Sink → ShownPart g.row.S.Denot g.row.K.Denot
  shows = shown_by g.S.Source.told g.K.Sink.told g.K.Sink.name

  abbrev before : Shown g.row.S.Denot g.row.K.Denot g.row.C.Denot
  before = record { core = c.self.inside.core; parts = map (option_map shows) c.self.inside.parts.items }

  F : Found g.C.Client.progress before.core c.args.h c.in-Some.place
  F = found g.C.Client.progress before.core c.args.h c.in-Some.place c.in-Some.ensures.place c.in-Some.ensures.within

  ok : claim_idle (look_of before.core) F.component ≡ None
  ok = may_go g.C.Client.progress before.core c.args.h c.in-Some.place F c.in_default-claim_idle.ensures

  T : IsSeated F.component shows c.self.inside.parts.items c.in-Some.place c.in-Some-take.seat
  T = seated g.C.Client.progress shows c.self.inside.parts.items before.core c.args.h c.in-Some.place F c.self.invariant.1 (claim_passes (look_of before.core) F.component ok).free c.index_mut.result.now c.index_mut.ensures.value c.in-Some-take.seat (sym c.take.ensures.value ∙ c.in-Some-take.is)

  tells : c.must_announce-announces.result ≡ must_announce F.component
  tells = at_some (λ k. c.must_announce-announces.result ≡ must_announce k) (component_at c.in-Some.place before.core) F.component F.at c.must_announce-announces.ensures

  V : IsGiven F.component c.claim.new.headers (shows c.in-Some-take.seat) c.must_announce-announces.result (shows c.open-desk.result.value.part)
  V =
      let G = before.core in
      let i = c.in-Some.place in
      let announces = c.must_announce-announces.result in
      let places = c.claim.new.headers in
      let q = shows c.in-Some-take.seat in
      let same : F.component ≡ component_of c.in-Some-at.component.now = component_is g.C.Client.progress G c.args.h i F c.in-Some-at.component.now (rw c.in-Some-at.is at c.at.ensures) in
      let fronts : HasFronts F.component places (stocked G.stock) = at_some (λ k. HasFronts k places (stocked G.stock)) (component_at i G) F.component F.at c.claim.ensures.headers in
      let is = c.open-desk.ensures.part ∙ ap (λ (k : Component). prepared_where announces k q) (sym same) in
      given (look_of G) F.component (is_sound g.C.Client.progress before c.self.invariant.1 i F.component F.at) ok places (stocked G.stock) refl fronts q T.tied c.lawful_terms.ensures.format c.lawful_terms.ensures.factor announces tells (shows c.open-desk.result.value.part) is

  X : StepsBare (core_kept g.C.Client.progress before.core) (core_kept g.C.Client.progress c.close_out.new.self) (λ w v. Claim w c.args.h (Ok (ClaimedWork (lent_work F.component c.claim.new.headers))) v)
  X = claimed_at g.C.Client.progress before.core c.args.h c.in-Some.place F c.claim.new.self c.close_out.new.self c.claim.new.headers c.in_default-claim_idle.ensures c.claim.ensures.change c.claim.ensures.carried c.close_out.ensures.closes

  mine : number_of F.component ≡ c.args.h.generation
  mine = ap (λ (k : Handle). k.generation) (own g.C.Client.progress before.core before.core before.core c.args.h c.in-Some.place F (λ k. refl))

  D : HasGone g.C.Client.progress before c.close_out.new.self c.args.h c.in-Some.place F.component (lent_work F.component c.claim.new.headers) (shows c.in-Some-take.seat)
  D = has_gone g.C.Client.progress before c.close_out.new.self c.args.h c.in-Some.place F.component (lent_work F.component c.claim.new.headers) c.self.invariant.1 F.place F.at X mine (shows c.in-Some-take.seat) T.held

  after : map (option_map shows) (set c.self.inside.parts.items c.in-Some.place c.take.new.self) ≡ set before.parts c.in-Some.place None
  after = map_set (option_map shows) c.self.inside.parts.items c.in-Some.place c.take.new.self
      ∙ ap (λ (o : Option (AnyPart g.row.S.Denot g.row.K.Denot g.S.Source g.K.Sink)). set before.parts c.in-Some.place (option_map shows o)) c.take.ensures.after

pub make_work-requires : goal.make_work-requires
make_work-requires g c =
    let v = V g (goal.at.make_work-requires g c).After-close_out in
    record {
      lawful = rw c.deref_mut.ensures.value v.lawful;
      within = rw c.deref_mut.ensures.value v.within;
      fits = rw c.deref_mut.ensures.value v.ready;
      outputs = rw c.deref_mut.ensures.value v.outputs;
      none = v.none;
    }

pub invariant_of-self : goal.invariant_of-self
invariant_of-self g c =
    let d = (goal.at.invariant_of-self g c).After-close_out in
    (c.self.invariant.0, rw (after g d) ((D g d).whole c.close_out.ensures.settled))

pub returns : goal.returns
returns g c =
    let p = g.C.Client.progress in
    let d = (goal.at.returns g c).After-close_out in
    let G = c.self.inside.core in let i = c.in-Some.place in let places = c.claim.new.headers in
    let f = F g d in let k = f.component in
    let v = V g d in let gone = D g d in
    let passes = claim_passes (look_of G) k (ok g d) in
    let q = shows g d c.open-desk.result.value.part in
    let law = rw c.deref.ensures at c.law_of_shown.ensures in
    record {
      step = rw (← c.self.view_is, after g d) (λ t A w s.
          let is_terms : t ≡ terms_of k = terms_named c.args.h (look_of G) k i t f.place f.at A in
          let far : (u : World) → Stands (kept p (before g d)) u → IsSoFar t u (number_of k) (seen_of q) = λ u U x st. rw is_terms (v.done (terms_of k) false x (was_so_far p (before g d) i k (shows g d c.in-Some-take.seat) f.at passes.free (either_of k.part.ended k.part.failed passes.goes).1 (T g d).held u U x st)) in
          let y = gone.step t (seen_of q) far w s in
          let comp : c.make_work.result.component.generation ≡ number_of k = ap (λ (x : Handle). x.generation) c.make_work.ensures.component ∙ sym (mine g d) in
          let e : seen_work t c.make_work.result ≡ lent_work k places = λ j. record { component = comp j; terms = is_terms j; headers = carried_from 0 (c.make_work.ensures.headers j); announces = (c.make_work.ensures.announces ∙ tells g d) j } in (
            y.0,
            y.1,
            (
              subst (λ (z : WorkSeen). Claim w c.args.h (Ok (ClaimedWork z)) y.0) (sym e) y.2.0,
              λ x st. rw (c.make_work.ensures.part, c.deref_mut.ensures.value) (shown_done t false x q _ _ _ _ law.left law.rest law.kept law.writing (y.2.1 x (ap (λ (n : ℕ). stream_of n y.0) (sym comp) ∙ st))),
            ),
          ));
      terms = rw (← c.self.view_is, c.make_work.ensures.part) (λ t A e. rw c.deref_mut.ensures.value (sym law.terms ∙ (v.terms (sym c.make_work.ensures.announces ∙ e) ∙ sym (terms_named c.args.h (look_of G) k i t f.place f.at A))));
      its =
          let named = gone.named (λ n. c.close_out.ensures.clients n ∙ c.claim.ensures.clients n) in
          rw (c.make_work.ensures.part, c.make_work.ensures.announces, c.deref_mut.ensures.value) (and_some _ (component_named c.args.h (components_of c.close_out.new.self.entries)) named.0 named.1
          (own_as named.0 c.must_announce-announces.result None q.terms _ q.failed _ law.terms law.failed (v.own named.0 (work_of (look_of G).headers k) named.2 (sym (tells g d)))));
      whole = rw (c.make_work.ensures.part, c.deref_mut.ensures.value) (sym law.failed ∙ (v.failed ∙ (either_of k.part.ended k.part.failed passes.goes).1));
      component = c.make_work.ensures.component;
      lent =
          let u = at_some (λ x. StepsBare (core_kept p G) (core_kept p c.claim.new.self) (λ w v. v ≡ with_work i x (work_of (seen w.headers) x) w)) (component_at i G) k f.at c.claim.ensures.change c.self.invariant.1.worlds.world (bare p _ c.self.invariant.1.worlds.world c.self.invariant.1.worlds.stands) in
          rw (c.make_work.ensures.headers, ← mine g d) (lent_over p c.claim.new.self c.close_out.new.self u.0 u.1 c.close_out.ensures.closes (number_of k) places (at_some (λ x. AreLent (number_of x) places (look_of c.claim.new.self)) (component_at i G) k f.at c.claim.ensures.lent));
      file = rw (← c.self.view_is, c.make_work.ensures.part, c.deref_mut.ensures.value) (v.file ∙ sym gone.file);
      gone = rw (after g d) gone.own;
      files = rw (← c.self.view_is, after g d) gone.others;
      held = rw (← c.self.view_is) (keeps_over p G c.close_out.new.self (acts.Claim c.args.h) (acts.Claimed (Ok (ClaimedWork (lent_work k places)))) refl refl (λ w. tt) c.law_of_worlds.ensures.one (X g d));
      clients = rw (← c.self.view_is) (λ n. c.close_out.ensures.clients n ∙ c.claim.ensures.clients n);
      unchanged = tt;
    }
