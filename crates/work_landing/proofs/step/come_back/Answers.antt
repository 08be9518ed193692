use Rattle.std.proofs.Common.{◌≡◌, ◌≤◌, [], ◌++◌, length, sym, subst, ◌∙◌, ap, arith}
use Rattle.il_machine.specs.Finishing.{end_note, fault_note}
use Rattle.il_machine.specs.Parts.{terms_of}
use Rattle.il_machine.specs.World.{Component}
use Rattle.port_stock.specs.Kept.{stocked}
use Rattle.il_component.specs.Entries.{component_of, held_in}
use Rattle.work_landing.specs.Returning.{AllCanLand, all_noticed, all_notes, ended_by, part_by, with_notes}
use Rattle.work_landing.proofs.Coming.{all_can, comes_to, ended_count, is_of, notices_come, parted, parted_then, room_left, room_then, stock_comes}
use Rattle.work_landing.proofs.Telling.{gets_then}
use Rattle.work_landing.proofs.step.come_back.Goals as goal

pub keep_ends-requires-clause-count : goal.keep_ends-requires-clause-count
keep_ends-requires-clause-count g c =
    let k0 = component_of c.args.component.now in
    let ways = c.args.ways.now in
    let places = c.args.places.now in
    let nine : length places ≡ 9 = omega arith in
    let inputs : length (terms_of k0).inputs ≤ length ways = c.requires.inputs in
    ap (λ (x : Component). length x.part.ended_inputs) c.take_work.ensures.component ∙ (c.requires.count ∙ sym (ended_count k0 ways places c.requires.ways inputs (omega (arith, inputs, c.requires.few, nine))))

pub bring_places-requires-clause-can : goal.bring_places-requires-clause-can
bring_places-requires-clause-can g c =
    let k0 = component_of c.args.component.now in
    let ways = c.args.ways.now in
    let places = c.args.places.now in
    let step = c.args.step in
    let nine : length places ≡ 9 = omega arith in
    let inputs : length (terms_of k0).inputs ≤ length ways = c.requires.inputs in
    let o = c.is_over-over.result in
    let e = c.ends_stream-ends.result in
    let known = c.known_of-known.result in
    let I = is_of k0 ways places step o e known c.kind-kind.ensures.kind c.handle.ensures c.is_over-over.ensures c.known_of-known.ensures c.ends_stream-ends.ensures.value in
    let taken = component_of c.take_work.new.self in
    let kept = component_of c.keep_ends.new.component in
    let n = c.requires.notes in
    subst (λ (x : Component). AllCanLand known 0 ways places (stocked c.args.stock.now) x) (sym (parted_then k0 ways places step o taken kept c.take_work.ensures.component c.keep_ends.ensures.component))
    (all_can k0 ways places step n.0 n.1 c.requires.ways inputs (omega (arith, inputs, c.requires.few, nine)) c.requires.within n.2.0 o e known I (part_by step.fault (ended_by ways places) o k0.part) (stocked c.args.stock.now) c.requires.homeless c.requires.apart
    (room_then k0 ways places step o taken kept c.take_work.ensures.component c.keep_ends.ensures.component c.requires.work c.take_work.ensures.room) n.2.1)

pub tell_end-requires-clause-room : goal.tell_end-requires-clause-room
tell_end-requires-clause-room g c =
    let k0 = component_of c.args.component.now in
    let ways = c.args.ways.now in
    let places = c.args.places.now in
    let step = c.args.step in
    let o = c.is_over-over.result in
    let known = c.known_of-known.result in
    let taken = component_of c.take_work.new.self in
    let kept = component_of c.keep_ends.new.component in
    room_left (parted (part_by step.fault (ended_by ways places) o k0.part) k0) (component_of c.bring_places.new.component) known ways places (room_then k0 ways places step o taken kept c.take_work.ensures.component c.keep_ends.ensures.component c.requires.work c.take_work.ensures.room)
    (c.bring_places.ensures.notes.component ∙ ap (with_notes (all_notes known ways places)) (parted_then k0 ways places step o taken kept c.take_work.ensures.component c.keep_ends.ensures.component))

pub returns : goal.returns
returns g c =
    let k0 = component_of c.args.component.now in
    let ways = c.args.ways.now in
    let places = c.args.places.now in
    let step = c.args.step in
    let nine : length places ≡ 9 = omega arith in
    let inputs : length (terms_of k0).inputs ≤ length ways = c.requires.inputs in
    let fit : length (terms_of k0).inputs ≤ length places = omega (arith, inputs, c.requires.few, nine) in
    let o = c.is_over-over.result in
    let e = c.ends_stream-ends.result in
    let known = c.known_of-known.result in
    let I = is_of k0 ways places step o e known c.kind-kind.ensures.kind c.handle.ensures c.is_over-over.ensures c.known_of-known.ensures c.ends_stream-ends.ensures.value in
    let is = parted_then k0 ways places step o (component_of c.take_work.new.self) (component_of c.keep_ends.new.component) c.take_work.ensures.component c.keep_ends.ensures.component in
    let all = gets_then c.keep_ends.new.component c.bring_places.new.component c.tell_end.new.component (all_notes known ways places) (end_note e ++ fault_note step.fault) (all_noticed known ways places) [] c.bring_places.ensures.notes c.tell_end.ensures in
    record {
      component = λ s took left.
          comes_to k0 ways places step s took c.requires.ways inputs fit c.requires.within left o e known I (component_of c.tell_end.new.component)
          (all.component ∙ ap (with_notes (all_notes known ways places ++ (end_note e ++ fault_note step.fault))) is);
      client = all.client ∙ (c.keep_ends.ensures.kept.client ∙ c.take_work.ensures.kept.client);
      notices = λ s took left.
          (let stays : held_in c.keep_ends.new.component.queues.notes ≡ held_in c.args.component.now.queues.notes = c.keep_ends.ensures.kept.headers ∙ c.take_work.ensures.kept.headers in
          all.headers ∙ (ap (λ hs. hs ++ (all_noticed known ways places ++ [])) stays
          ∙ ap (λ hs. held_in c.args.component.now.queues.notes ++ hs) (notices_come k0 ways places step s took c.requires.ways inputs fit c.requires.within left o e known I)));
      stock = λ s took left. stock_comes k0 ways places step s took c.requires.ways inputs fit c.requires.within left o e known I (stocked c.args.stock.now) (stocked c.bring_places.new.stock) c.bring_places.ensures.stock;
      free = c.bring_places.ensures.free;
    }
