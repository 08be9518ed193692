use Rattle.std.proofs.Common.{◌≡◌, ℕ, true, false, List, map, set, Option, Some, None, IsSomeAnd, option_map, option_and_then, sym, ◌∙◌, ap, subst}
use Rattle.std.specs.Prelude.{unwrap_or}
use Rattle.omx_types.specs.declared.handle.Handle.{Handle}
use Rattle.il_machine.specs.Whole.{PartSeen}
use Rattle.il_machine.specs.World.{Component}
use Rattle.audio_parts.specs.declared.any_part.AnyPart.{AnyPart}
use Rattle.audio_parts.specs.AnyParts.{file_of as part_file}
use Rattle.audio_parts.specs.Shown.{ShownPart, shown_by}
use Rattle.graph_core.specs.Entries.{Entries, components_of, component_at}
use Rattle.graph_core.proofs.Replacing.{entry_place_is}
use Rattle.il_flow.specs.Works.{seen_done}
use Rattle.il_graph.specs.Finishing.{Returns}
use Rattle.il_graph.specs.Shown.{Shown}
use Rattle.il_graph.proofs.Calling.{Found, and_some, found}
use Rattle.il_graph.proofs.Back.{HasComeBack, IsBrought, IsKnown, brought_is, comes_with, is_brought, is_told, map_back, number_named, own_is, own_none, own_part, place_within, read_part, seen_as, told_back, was_empty, worked_back, works_so}
use Rattle.il_graph.proofs.graph.Graph.finish.Given.{Over}
use Rattle.il_graph.proofs.graph.Graph.finish.Goals.{After-close_out, After-close_out-2, After-law_of_shown, After-unwrap_or-left}
use Rattle.il_graph.proofs.graph.Graph.finish.Goals as goal

abbrev shows : (g : Over) → AnyPart g.row.S.Denot g.row.K.Denot g.S.Source g.K.Sink → ShownPart g.row.S.Denot g.row.K.Denot
shows g = shown_by g.S.Source.told g.K.Sink.told g.K.Sink.name

abbrev before : (g : Over) → Entries g.row.C.Denot → List (Option (AnyPart g.row.S.Denot g.row.K.Denot g.S.Source g.K.Sink)) → Shown g.row.S.Denot g.row.K.Denot g.row.C.Denot
before g core items = record { core = core; parts = map (option_map (shows g)) items }

-- ---- what is known of the work as it comes back

known : (g : Over) (c : After-law_of_shown g) → IsKnown g.C.Client.progress (before g c.self.inside.core c.self.inside.parts.items) c.in-Some.place c.args.done (shows g c.args.done.part)
known g c =
    let d = c.args.done in
    let G = c.self.inside.core in
    let F : Found g.C.Client.progress G c.component.result c.in-Some.place = found g.C.Client.progress G c.component.result c.in-Some.place c.in-Some.ensures.place c.in-Some.ensures.within in
    let O = own_is c.component.result d.component (components_of G.entries) c.in-Some.place F.component c.component.ensures F.place F.at (rw (← c.self.view_is) at c.requires.its) in
    let law = rw (c.deref.ensures, c.into_parts-desk.ensures.part) at c.law_of_shown.ensures in
    let comes = rw (← c.self.view_is) at c.requires.comes in
    record {
      component = F.component;
      at = F.at;
      number = sym (number_named c.component.result (components_of G.entries) c.in-Some.place F.component F.place F.at ∙ ap (λ (x : Handle). x.generation) c.component.ensures);
      out = O.work;
      tied = own_part g.S.Source.told g.K.Sink.told g.K.Sink.name d.part F.component d.announces d.fault _ _ law.terms law.failed c.into_parts-desk.ensures.lawful O;
      took = comes.1;
      world = comes.0;
      stands = comes.2.0;
      returns = subst (λ (x : PartSeen). Returns comes.0 (seen_done comes.1 d) x) (seen_as (shows g d.part) _ _ _ _ law.left law.rest law.kept law.writing) comes.2.1;
    }

-- what a step brings back
brought : (g : Over) (c : After-unwrap_or-left g) → IsBrought c.args.done (shows g c.args.done.part) c.into_parts-desk.result.0.value.headers (record { frames = c.in-Some-brought.brought.frames; fault = c.in-Some-brought.brought.fault; left = c.unwrap_or-left.result })
brought g c =
    let d = c.args.done in
    let b = c.in-Some-brought.brought in
    let desk = c.into_parts-desk.result in
    let a : d.announces ≡ false = is_brought d.announces desk.1 b c.into_parts-desk.ensures.announced c.in-Some-brought.is in
    let e = brought_is desk.1 b (record { frames = d.frames; fault = d.fault }) c.in-Some-brought.is (c.into_parts-desk.ensures.brought a) in
    let law = rw (c.deref.ensures, c.into_parts-desk.ensures.part) at c.law_of_shown.ensures.left in
    record {
      announces = a;
      headers = c.into_parts-desk.ensures.headers;
      frames = ap (λ x. x.frames) e;
      fault = ap (λ x. x.fault) e;
      left = c.unwrap_or-left.ensures ∙ ap (λ (o : Option ℕ). unwrap_or o 0) (rw (c.deref-2.ensures, c.into_parts-desk.ensures.part) at c.frames_left.ensures.value ∙ sym law);
    }

-- ---- what the call leaves

told : (g : Over) (c : After-close_out g) → IsKnown g.C.Client.progress (before g c.self.inside.core c.self.inside.parts.items) c.in-Some.place c.args.done (shows g c.args.done.part)
    → HasComeBack g.C.Client.progress (before g c.self.inside.core c.self.inside.parts.items) c.close_out.new.self c.in-Some.place c.args.done.component.generation (λ took. seen_done took c.args.done) (shows g c.args.done.part)
told g c y =
    let G = c.self.inside.core in
    let items = c.self.inside.parts.items in
    let old = c.index_mut.result.now in
    told_back g.C.Client.progress (before g G items) c.in-Some.place c.args.done (shows g c.args.done.part) c.self.invariant.1 y c.finish_announcement.new.self c.close_out.new.self (option_map (shows g) old)
    (read_part g.C.Client.progress (shows g) items G c.in-Some.place c.self.invariant.1 c.in-Some.ensures.within old c.index_mut.ensures.value) c.close_out.ensures.closes c.finish_announcement.ensures.change

told_parts : (g : Over) (c : After-close_out g) → map (option_map (shows g)) (set c.self.inside.parts.items c.in-Some.place c.replace.new.dest) ≡ set (map (option_map (shows g)) c.self.inside.parts.items) c.in-Some.place (Some (shows g c.args.done.part))
told_parts g c = map_back (shows g) c.self.inside.parts.items c.in-Some.place c.replace.new.dest c.args.done.part (c.replace.ensures.after ∙ ap Some c.into_parts-desk.ensures.part)

worked : (g : Over) (c : After-close_out-2 g) → IsKnown g.C.Client.progress (before g c.self.inside.core c.self.inside.parts.items) c.in-Some.place c.args.done (shows g c.args.done.part)
    → IsBrought c.args.done (shows g c.args.done.part) c.into_parts-desk.result.0.value.headers (record { frames = c.in-Some-brought.brought.frames; fault = c.in-Some-brought.brought.fault; left = c.unwrap_or-left.result })
    → HasComeBack g.C.Client.progress (before g c.self.inside.core c.self.inside.parts.items) c.close_out-2.new.self c.in-Some.place c.args.done.component.generation (λ took. seen_done took c.args.done) (shows g c.args.done.part)
worked g c y z =
    let G = c.self.inside.core in
    let items = c.self.inside.parts.items in
    let old = c.index_mut-2.result.now in
    worked_back g.C.Client.progress (before g G items) c.in-Some.place c.args.done (shows g c.args.done.part) c.self.invariant.1 y c.finish.new.self c.close_out-2.new.self (option_map (shows g) old)
    (read_part g.C.Client.progress (shows g) items G c.in-Some.place c.self.invariant.1 c.in-Some.ensures.within old c.index_mut-2.ensures.value) c.close_out-2.ensures.closes
    c.into_parts-desk.result.0.value.headers _ z (rw c.deref_mut.ensures.value at c.finish.ensures.change)

worked_parts : (g : Over) (c : After-close_out-2 g) → map (option_map (shows g)) (set c.self.inside.parts.items c.in-Some.place c.replace-2.new.dest) ≡ set (map (option_map (shows g)) c.self.inside.parts.items) c.in-Some.place (Some (shows g c.args.done.part))
worked_parts g c = map_back (shows g) c.self.inside.parts.items c.in-Some.place c.replace-2.new.dest c.args.done.part (rw (c.deref_mut.ensures.value, c.into_parts-desk.ensures.part) at c.replace-2.ensures.after)

-- ---- the goals

pub unreachable-requires : goal.unreachable-requires
unreachable-requires g c =
    own_none _ _ _ _ c.component.result c.args.done.component (components_of c.self.inside.core.entries) c.component.ensures (entry_place_is c.component.result c.self.inside.core.entries ∙ sym c.in_default.ensures.place) (rw (← c.self.view_is) at c.requires.its)

pub finish_announcement-requires : goal.finish_announcement-requires
finish_announcement-requires g c =
    let y = known g (goal.at.finish_announcement-requires g c).After-law_of_shown in
    let a = is_told c.args.done.announces c.into_parts-desk.result.1 _ c.into_parts-desk.ensures.brought c.in_default-brought.is in
    and_some (λ (x : Component). IsSomeAnd x.work (λ work. work.announces ≡ true)) (component_at c.in-Some.place c.self.inside.core) y.component y.at (works_so y.component c.args.done.announces true a y.out)

pub finish-requires : goal.finish-requires
finish-requires g c =
    let at = goal.at.finish-requires g c in
    record {
      comes = rw c.deref_mut.ensures.value (comes_with g.C.Client.progress (before g c.self.inside.core c.self.inside.parts.items) c.in-Some.place c.args.done (shows g c.args.done.part) c.self.invariant.1 (known g at.After-law_of_shown)
          c.into_parts-desk.result.0.value.headers _ (brought g at.After-unwrap_or-left));
      handed = rw (c.deref_mut.ensures.value, c.into_parts-desk.ensures.headers) (rw (← c.self.view_is) at c.requires.handed);
    }

pub index_mut-requires : goal.index_mut-requires
index_mut-requires g c = place_within g.C.Client.progress (shows g) c.self.inside.parts.items c.self.inside.core c.in-Some.place c.self.invariant.1 c.in-Some.ensures.within _ c.self.inside.parts.ok.0

pub index_mut-requires-2 : goal.index_mut-requires-2
index_mut-requires-2 g c = place_within g.C.Client.progress (shows g) c.self.inside.parts.items c.self.inside.core c.in-Some.place c.self.invariant.1 c.in-Some.ensures.within _ c.self.inside.parts.ok.0

pub end_part-requires : goal.end_part-requires
end_part-requires g c =
    let y = known g (goal.at.end_part-requires g c).After-law_of_shown in
    subst (λ (x : Option (AnyPart g.row.S.Denot g.row.K.Denot g.S.Source g.K.Sink)). option_and_then (λ part. part_file part) x ≡ None) (sym c.replace.ensures.value)
    (was_empty g.S.Source.told g.K.Sink.told g.K.Sink.name g.C.Client.progress c.self.inside.parts.items c.self.inside.core c.in-Some.place c.self.invariant.1 c.in-Some.ensures.within y c.index_mut.result.now c.index_mut.ensures.value)

pub end_part-requires-2 : goal.end_part-requires-2
end_part-requires-2 g c =
    let y = known g (goal.at.end_part-requires-2 g c).After-law_of_shown in
    subst (λ (x : Option (AnyPart g.row.S.Denot g.row.K.Denot g.S.Source g.K.Sink)). option_and_then (λ part. part_file part) x ≡ None) (sym c.replace-2.ensures.value)
    (was_empty g.S.Source.told g.K.Sink.told g.K.Sink.name g.C.Client.progress c.self.inside.parts.items c.self.inside.core c.in-Some.place c.self.invariant.1 c.in-Some.ensures.within y c.index_mut-2.result.now c.index_mut-2.ensures.value)

pub invariant_of-self : goal.invariant_of-self
invariant_of-self g c =
    let at = goal.at.invariant_of-self g c in
    (c.self.invariant.0, rw (told_parts g at.After-close_out) ((told g at.After-close_out (known g at.After-law_of_shown)).whole c.close_out.ensures.settled))

pub returns-in_default-brought : goal.returns-in_default-brought
returns-in_default-brought g c =
    let at = goal.at.returns-in_default-brought g c in
    let b = told g at.After-close_out (known g at.After-law_of_shown) in
    let same = told_parts g at.After-close_out in
    let law = rw (c.deref.ensures, c.into_parts-desk.ensures.part) at c.law_of_shown.ensures in
    record {
      step = rw (← c.self.view_is, seen_as (shows g c.args.done.part) _ _ _ _ law.left law.rest law.kept law.writing, same) b.step;
      file = rw same b.file;
      files = rw (← c.self.view_is, same) b.files;
      held = rw (← c.self.view_is) b.held;
      clients = rw (← c.self.view_is) (λ n. c.close_out.ensures.clients n ∙ c.finish_announcement.ensures.clients n);
    }

pub invariant_of-self-2 : goal.invariant_of-self-2
invariant_of-self-2 g c =
    let at = goal.at.invariant_of-self-2 g c in
    (c.self.invariant.0, rw (worked_parts g at.After-close_out-2) ((worked g at.After-close_out-2 (known g at.After-law_of_shown) (brought g at.After-unwrap_or-left)).whole c.close_out-2.ensures.settled))

pub returns : goal.returns
returns g c =
    let at = goal.at.returns g c in
    let b = worked g at.After-close_out-2 (known g at.After-law_of_shown) (brought g at.After-unwrap_or-left) in
    let same = worked_parts g at.After-close_out-2 in
    let law = rw (c.deref.ensures, c.into_parts-desk.ensures.part) at c.law_of_shown.ensures in
    record {
      step = rw (← c.self.view_is, seen_as (shows g c.args.done.part) _ _ _ _ law.left law.rest law.kept law.writing, same) b.step;
      file = rw same b.file;
      files = rw (← c.self.view_is, same) b.files;
      held = rw (← c.self.view_is) b.held;
      clients = rw (← c.self.view_is) (λ n. c.close_out-2.ensures.clients n ∙ c.finish.ensures.clients n);
    }
