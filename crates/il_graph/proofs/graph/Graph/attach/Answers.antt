use Rattle.std.proofs.Common.{◌≡◌, map, set, Some, None, MatchOption, option_map, Ok, Err, refl, sym, ◌∙◌, ap, subst}
use Rattle.omx_types.specs.declared.handle.Handle.{Handle}
use Rattle.omx_types.specs.declared.kind.Kind.{Kind}
use Rattle.omx_types.specs.declared.error.OmxError.TheVariants as errors
use Rattle.part_api.specs.declared.attached.Attached.{Attached}
use Rattle.il_machine.specs.World.{Component, Stream}
use Rattle.il_machine.specs.Look.{Look}
use Rattle.il_machine.specs.Due.{ClosesTo}
use Rattle.il_machine.specs.Answers.{Answers}
use Rattle.il_machine.specs.Files.{Offered, attached, attach_refusal, file_port_format, with_file}
use Rattle.il_machine.specs.Parts.{terms_of}
use Rattle.il_machine.specs.Acts as acts
use Rattle.il_machine.specs.Run.{Step}
use Rattle.stock_laws.specs.Bare.{StepsBare}
use Rattle.stock_laws.proofs.Lists.{map_set}
use Rattle.il_component.specs.Files.{offered as file_offered}
use Rattle.graph_core.specs.Entries.{component_at, kept as core_kept}
use Rattle.audio_parts.specs.AnyParts.{MayAttach, attached_of}
use Rattle.audio_parts.specs.declared.any_part.AnyPart.{AnyPart}
use Rattle.audio_parts.specs.Shown.{ShownPart, shown_by}
use Rattle.il_graph.specs.Shown.{Shown, offered}
use Rattle.il_graph.proofs.Calling.{Found, found, and_some, at_some, accepted_at, not_found, refused_at}
use Rattle.il_graph.proofs.Clients.{own}
use Rattle.il_graph.proofs.Filing.{IsFiledIn, attached_same, filed, filed_tied, offered_so, told_of}
use Rattle.il_graph.proofs.HandedIn.{keeps_over}
use Rattle.il_graph.proofs.Holding.{attach_passes, attachable, may_attach, seat_there, seat_within, seated, settled_work}
use Rattle.il_graph.proofs.Whole.{whole_over}
use Rattle.il_graph.proofs.graph.Graph.attach.Given.{Over}
use Rattle.il_graph.proofs.graph.Graph.attach.Goals.{After-close_out}
use Rattle.il_graph.proofs.graph.Graph.attach.Goals as goal

pub returns-in_default-clause-step : goal.returns-in_default-clause-step
returns-in_default-clause-step g c =
    let O = offered g.S.Source.offset g.S.Source.size g.S.Source.told g.K.Sink.told c.args.file in
    rw (← c.self.view_is) (whole_over g.C.Client.progress _ c.self.inside.core (acts.Attach c.args.h O) (acts.Plain _) tt c.self.invariant.1 (λ w B. tt) (not_found g.C.Client.progress (Unit {0}) c.self.inside.core c.args.h (λ w v i k. Answers (attach_refusal k O) (Err errors.InvalidComponent) w v (λ _. ClosesTo (with_file i k O w) v)) c.in_default.ensures.place))

pub returns-in-Some-attach_refusal-clause-step : goal.returns-in-Some-attach_refusal-clause-step
returns-in-Some-attach_refusal-clause-step g c =
    let G = c.self.inside.core in
    let F : Found g.C.Client.progress G c.args.h c.in-Some.place = found g.C.Client.progress G c.args.h c.in-Some.place c.in-Some.ensures.place c.in-Some.ensures.within in
    let O = offered g.S.Source.offset g.S.Source.size g.S.Source.told g.K.Sink.told c.args.file in
    let as_core = offered_so g.S.Source.offset g.S.Source.size g.S.Source.told g.K.Sink.told c.args.file c.attached-attached.result c.there.result c.attached-attached.ensures c.there.ensures.bytes in
    let no = subst (λ (o : Offered). MatchOption (component_at c.in-Some.place G) ⊥ (λ k. Some c.in-Some-attach_refusal.error ≡ attach_refusal k o)) as_core (c.in-Some-attach_refusal.ensures (told_of g.S.Source.offset g.S.Source.told g.K.Sink.told c.args.file)) in
    rw (← c.self.view_is) (whole_over g.C.Client.progress _ G (acts.Attach c.args.h O) (acts.Plain _) tt c.self.invariant.1 (λ w B. tt)
    (refused_at g.C.Client.progress (λ (l : Look) (k : Component). attach_refusal k O) G c.args.h c.in-Some.place c.in-Some-attach_refusal.error (λ w v j k (_ : (Unit {0})). ClosesTo (with_file j k O w) v) F no))

pub attach-requires : goal.attach-requires
attach-requires g c =
    let G = c.self.inside.core in
    let F : Found g.C.Client.progress G c.args.h c.in-Some.place = found g.C.Client.progress G c.args.h c.in-Some.place c.in-Some.ensures.place c.in-Some.ensures.within in (
      c.there.result,
      and_some (λ k. attach_refusal k (file_offered c.attached-attached.result c.there.result None) ≡ None) (component_at c.in-Some.place G) F.component F.at
          (sym (at_some (λ k. None ≡ attach_refusal k (file_offered c.attached-attached.result c.there.result None)) (component_at c.in-Some.place G) F.component F.at (c.in_default-attach_refusal.ensures None))),
    )

pub index_mut-requires : goal.index_mut-requires
index_mut-requires g c =
    let G = c.self.inside.core in
    let F : Found g.C.Client.progress G c.args.h c.in-Some.place = found g.C.Client.progress G c.args.h c.in-Some.place c.in-Some.ensures.place c.in-Some.ensures.within in
    seat_within g.C.Client.progress (shown_by g.S.Source.told g.K.Sink.told g.K.Sink.name) c.self.inside.parts.items G c.args.h c.in-Some.place F c.self.invariant.1 _ c.self.inside.parts.ok.0

pub unreachable-requires : goal.unreachable-requires
unreachable-requires g c =
    let G = c.self.inside.core in
    let F : Found g.C.Client.progress G c.args.h c.in-Some.place = found g.C.Client.progress G c.args.h c.in-Some.place c.in-Some.ensures.place c.in-Some.ensures.within in
    let M = attach_passes F.component _ (attachable g.C.Client.progress G c.args.h c.in-Some.place F g.S.Source.offset g.S.Source.size g.S.Source.told g.K.Sink.told c.args.file c.attached-attached.result c.there.result c.attached-attached.ensures c.there.ensures.bytes c.in_default-attach_refusal.ensures) in
    let free = settled_work g.C.Client.progress _ c.self.invariant.1 c.in-Some.place F.component F.at M.settable in
    seat_there g.C.Client.progress (shown_by g.S.Source.told g.K.Sink.told g.K.Sink.name) c.self.inside.parts.items G c.args.h c.in-Some.place F c.self.invariant.1 free c.index_mut.result.now c.index_mut.ensures.value c.in-None.is

pub give_file-requires : goal.give_file-requires
give_file-requires g c =
    let G = c.self.inside.core in
    let F : Found g.C.Client.progress G c.args.h c.in-Some.place = found g.C.Client.progress G c.args.h c.in-Some.place c.in-Some.ensures.place c.in-Some.ensures.within in
    let M = attach_passes F.component _ (attachable g.C.Client.progress G c.args.h c.in-Some.place F g.S.Source.offset g.S.Source.size g.S.Source.told g.K.Sink.told c.args.file c.attached-attached.result c.there.result c.attached-attached.ensures c.there.ensures.bytes c.in_default-attach_refusal.ensures) in
    let free = settled_work g.C.Client.progress _ c.self.invariant.1 c.in-Some.place F.component F.at M.settable in
    let T = seated g.C.Client.progress (shown_by g.S.Source.told g.K.Sink.told g.K.Sink.name) c.self.inside.parts.items G c.args.h c.in-Some.place F c.self.invariant.1 free c.index_mut.result.now c.index_mut.ensures.value c.in-Some-index_mut.seat c.in-Some-index_mut.is in
    record {
      free = rw (c.deref_mut.ensures.value, c.seat.view_is) (T.tied.attached ∙ M.without);
      may = rw (c.deref_mut.ensures.value, c.seat.view_is) (subst (λ (k : Kind). MayAttach g.S.Source.offset g.S.Source.size k c.args.file) (sym T.tied.kind)
          (may_attach g.S.Source.offset g.S.Source.size g.S.Source.told g.K.Sink.told F.component.settings.kind (file_port_format F.component) c.args.file c.there.ensures.within M.for_kind M.good));
    }

-- ---- what the call leaves

module _ (g : Over) (c : After-close_out g) where
  abbrev shows : AnyPart g.row.S.Denot g.row.K.Denot g.S.Source g.K.Sink → ShownPart g.row.S.Denot g.row.K.Denot
  shows = shown_by g.S.Source.told g.K.Sink.told g.K.Sink.name

  abbrev before : Shown g.row.S.Denot g.row.K.Denot g.row.C.Denot
  before = record { core = c.self.inside.core; parts = map (option_map shows) c.self.inside.parts.items }

  abbrev O : Offered
  O = offered g.S.Source.offset g.S.Source.size g.S.Source.told g.K.Sink.told c.args.file

  F : Found g.C.Client.progress before.core c.args.h c.in-Some.place
  F = found g.C.Client.progress before.core c.args.h c.in-Some.place c.in-Some.ensures.place c.in-Some.ensures.within

  ok : attach_refusal F.component O ≡ None
  ok = attachable g.C.Client.progress before.core c.args.h c.in-Some.place F g.S.Source.offset g.S.Source.size g.S.Source.told g.K.Sink.told c.args.file c.attached-attached.result c.there.result c.attached-attached.ensures c.there.ensures.bytes c.in_default-attach_refusal.ensures

  -- the core's step
  X : StepsBare (core_kept g.C.Client.progress before.core) (core_kept g.C.Client.progress c.close_out.new.self) (λ w v. Step w (acts.Attach c.args.h O) (acts.Plain (Ok tt)) v)
  X =
      let as_core = offered_so g.S.Source.offset g.S.Source.size g.S.Source.told g.K.Sink.told c.args.file c.attached-attached.result c.there.result c.attached-attached.ensures c.there.ensures.bytes in
      let known = told_of g.S.Source.offset g.S.Source.told g.K.Sink.told c.args.file in
      let p = g.C.Client.progress in
      let G = before.core in
      let i = c.in-Some.place in
      accepted_at p (λ (l : Look) (k : Component). attach_refusal k O) G c.attach.new.self c.close_out.new.self c.args.h i tt (λ j k w. with_file j k O w) F
      (subst (λ (o : Offered). MatchOption (component_at i G) ⊥ (λ k. None ≡ attach_refusal k o)) as_core (c.in_default-attach_refusal.ensures known))
      (subst (λ (o : Offered). MatchOption (component_at i G) ⊥ (λ k. StepsBare (core_kept p G) (core_kept p c.attach.new.self) (λ w v. v ≡ with_file i k o w))) as_core (c.attach.ensures.change c.there.result known)) c.close_out.ensures.closes

  D : IsFiledIn g.C.Client.progress before c.close_out.new.self c.args.h c.in-Some.place O (shows c.give_file.new.part)
  D =
      let p = g.C.Client.progress in
      let i = c.in-Some.place in
      let q = shows c.give_file.new.part in
      let free = settled_work p before c.self.invariant.1 i F.component F.at (attach_passes F.component O ok).settable in
      let T = seated p shows c.self.inside.parts.items before.core c.args.h i F c.self.invariant.1 free c.index_mut.result.now c.index_mut.ensures.value c.in-Some-index_mut.seat c.in-Some-index_mut.is in
      let R = rw (c.deref_mut.ensures.value, c.seat.view_is) at c.give_file.ensures in
      let file : attached O ≡ attached_of c.args.file = attached_same g.S.Source.offset g.S.Source.size g.S.Source.told g.K.Sink.told c.args.file in
      filed p before c.close_out.new.self c.args.h i F.component O c.self.invariant.1 F.place F.at X (Some (shows c.in-Some-index_mut.seat)) q T.held
      (λ (s : Stream). R.done (terms_of (record F.component { file = Some (attached O) })) F.component.part.failed s (sym T.tied.kind) (ap (λ (a : Attached). Some a) file))
      (filed_tied F.component O c.args.file (shows c.in-Some-index_mut.seat) q file T.tied R) free (ap (λ (k : Handle). k.generation) (own p before.core before.core before.core c.args.h i F (λ k. refl)))

  after : map (option_map shows) (set c.self.inside.parts.items c.in-Some.place (Some c.give_file.new.part)) ≡ set before.parts c.in-Some.place (Some (shows c.give_file.new.part))
  after = map_set (option_map shows) c.self.inside.parts.items c.in-Some.place (Some c.give_file.new.part)

pub invariant_of-self : goal.invariant_of-self
invariant_of-self g c =
    let d = (goal.at.invariant_of-self g c).After-close_out in
    (c.self.invariant.0, rw (after g d) ((D g d).whole c.close_out.ensures.settled))

pub returns : goal.returns
returns g c =
    let d = (goal.at.returns g c).After-close_out in
    let R = rw (c.deref_mut.ensures.value, c.seat.view_is) at c.give_file.ensures in
    record {
      step = rw (← c.self.view_is, after g d) (D g d).step;
      file = rw (after g d) ((D g d).own ∙ R.file_is);
      files = rw (← c.self.view_is, after g d) (D g d).others;
      held = rw (← c.self.view_is) (keeps_over g.C.Client.progress c.self.inside.core c.close_out.new.self (acts.Attach c.args.h (O g d)) (acts.Plain (Ok tt)) refl refl (λ w. tt) c.law_of_worlds.ensures.one (X g d));
      clients = rw (← c.self.view_is) (λ k. c.close_out.ensures.clients k ∙ c.attach.ensures.clients k);
      handed_back = tt;
      unchanged = tt;
    }
