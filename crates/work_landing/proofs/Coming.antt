-- What a work that comes back makes of its component, and that there is a place for all of it.
use Rattle.std.proofs.Common.{◌≡◌, ℕ, zero, suc, ◌+◌, ◌*◌, ◌<◌, ◌≤◌, Bool, List, [], ◌++◌, length, refl, ap, sym, subst, ◌∙◌, append_assoc, append-nil, arith}
use Rattle.std.specs.Prelude.{Option, Some, None, IsSomeAnd}
use Rattle.omx_types.specs.declared.command.Note.{Note}
use Rattle.omx_types.specs.declared.handle.Handle.{Handle}
use Rattle.omx_types.specs.declared.kind.Kind.{Kind}
use Rattle.part_api.specs.Terms.{Terms}
use Rattle.il_machine.specs.Census.{note_numbers}
use Rattle.il_machine.specs.Claims.{CarriedHeader}
use Rattle.il_machine.specs.Due.{with_part}
use Rattle.il_machine.specs.Finishing.{end_note, fault_note, notes_after, notes_of_headers, part_after, stepped_back, tells_end}
use Rattle.il_machine.specs.Kinds.{ports_in}
use Rattle.il_machine.specs.Parts.{terms_of}
use Rattle.il_machine.specs.Room.{room, work_reserve}
use Rattle.il_machine.specs.Stepping.{WorkDone, ended_from}
use Rattle.il_machine.specs.Stock.{Stocked}
use Rattle.il_machine.specs.World.{Component, PartState, Stream, Work}
use Rattle.machine_laws.proofs.Finishing.{after_numbers}
use Rattle.machine_laws.proofs.Rooms.{costs, costs_same}
use Rattle.header_core.specs.BufferHeader.{BufferHeader}
use Rattle.work_landing.specs.declared.back.Known.{Known}
use Rattle.work_landing.specs.declared.back.Way.{Way}
use Rattle.work_landing.specs.declared.step.Step.{Step}
use Rattle.work_landing.specs.Landed.{AreHomeless, AreWays, AreWithin, IsLeft, all_landed, all_notices, done_by}
use Rattle.work_landing.specs.Places.{HaveOwnHeaders, carried_from}
use Rattle.work_landing.specs.Returning.{AllCanLand, HasNotePlaces, all_noticed, all_notes, all_put, ended_by, ends_by, known_by, over_by, part_by, with_notes}
use Rattle.work_landing.proofs.Backs.{Covers, all_notes_are, all_notices_are, all_put_is, covered}
use Rattle.work_landing.proofs.Ends.{ended_is, ends_is, known_is, part_is}
use Rattle.work_landing.proofs.Room.{all_events, can_all, headers_both, room_after}

-- ---- which inputs have ended

ended_length : (t : Terms) (frames : ℕ) (headers : List CarriedHeader) (port count : ℕ) → length (ended_from t frames headers port count) ≡ count
ended_length t frames headers port zero = refl
ended_length t frames headers port (suc count) = ap suc (ended_length t frames headers (port + 1) count)

-- one for each input
pub ended_count : (c : Component) (ways : List Way) (places : List (Option BufferHeader)) → AreWays c 0 ways → length (terms_of c).inputs ≤ length ways → length (terms_of c).inputs ≤ length places
    → length (ended_by ways places) ≡ length (terms_of c).inputs
ended_count c ways places ws l m = ap length (ended_is c ways places ws l m) ∙ ended_length (terms_of c) 0 (carried_from 0 places) 0 (length (terms_of c).inputs)

-- ---- the component

-- without its work, with another part and more notes
abbrev pub parted : PartState → Component → Component
parted part c = record c { work = None; part = part }

abbrev pub brought : List Way → List (Option BufferHeader) → Step → Component → Bool → Known → Bool → Component
brought ways places step c over known ends =
    with_notes (all_notes known ways places ++ (end_note ends ++ fault_note step.fault)) (parted (part_by step.fault (ended_by ways places) over c.part) c)

room_parted : (part : PartState) (c : Component) → room (parted part c) ≡ room (record c { work = None })
room_parted part c =
    let k : costs (parted part c) ≡ costs c = costs_same c (parted part c) c.commands refl in
    let l : costs (record c { work = None }) ≡ costs c = costs_same c (record c { work = None }) c.commands refl in
    omega (arith, k, l)

-- the work had a place for each header, and two
pub places_of_work : (o : Option Work) (count : ℕ) → IsSomeAnd o (λ work. length work.headers ≡ count) → work_reserve o ≡ count + 2
places_of_work None count h = absurd h
places_of_work (Some work) count h = omega (arith, h)

pub room_there : (part : PartState) (c : Component) (count : ℕ) → IsSomeAnd c.work (λ work. length work.headers ≡ count) → work_reserve c.work ≤ room (record c { work = None }) → count + 2 ≤ room (parted part c)
room_there part c count h l = let p = places_of_work c.work count h in let r = room_parted part c in omega (arith, p, l, r)

-- ---- what the code knows of the step

-- whether the part is over, whether a sink's stream ends, and what is told of each header
pub record IsOf (c : Component) (ways : List Way) (places : List (Option BufferHeader)) (step : Step) (o e : Bool) (k : Known) : Type 0 where
  pub over : o ≡ over_by c.settings.kind ways places step
  pub known : k ≡ known_by c.handle o ways places step
  pub ends : e ≡ ends_by c.settings.kind ways places step

module _ (c : Component) (ways : List Way) (places : List (Option BufferHeader)) (step : Step) (o : Bool) where
  pub is_of : (e : Bool) (k : Known) {kind : Kind} {handle : Handle} → kind ≡ c.settings.kind → handle ≡ c.handle → o ≡ over_by kind ways places step → k ≡ known_by handle o ways places step → e ≡ ends_by kind ways places step → IsOf c ways places step o e k
  is_of e k kind_is handle_is over known ends = record {
    over = over ∙ ap (λ (x : Kind). over_by x ways places step) kind_is;
    known = known ∙ ap (λ (x : Handle). known_by x o ways places step) handle_is;
    ends = ends ∙ ap (λ (x : Kind). ends_by x ways places step) kind_is;
  }

  -- its work was taken, and then its part was set
  module _ (d e : Component) (taken : d ≡ record c { work = None }) (kept : e ≡ with_part (part_by step.fault (ended_by ways places) o d.part) d) where
    pub parted_then : e ≡ parted (part_by step.fault (ended_by ways places) o c.part) c
    parted_then = kept ∙ ap (λ (x : Component). record x { part = part_by step.fault (ended_by ways places) o x.part }) taken

    pub room_then : IsSomeAnd c.work (λ work. length work.headers ≡ length (carried_from 0 places)) → work_reserve c.work ≤ room d → length (carried_from 0 places) + 2 ≤ room (parted (part_by step.fault (ended_by ways places) o c.part) c)
    room_then work reserve = room_there (part_by step.fault (ended_by ways places) o c.part) c (length (carried_from 0 places)) work (subst (λ (x : Component). work_reserve c.work ≤ room x) taken reserve)

module _ (c : Component) (ways : List Way) (places : List (Option BufferHeader)) (step : Step) (s : Stream) (took : List ℕ) (ws : AreWays c 0 ways) (l : length (terms_of c).inputs ≤ length ways) (m : length (terms_of c).inputs ≤ length places)
    (within : AreWithin (length ways) 0 places) (left : IsLeft c s (done_by c.handle.generation places step took) step) where
  abbrev done : WorkDone
  done = done_by c.handle.generation places step took

  covers : Covers ways places
  covers = covered (length ways) 0 ways places within (omega arith)

  abbrev over : Bool
  over = over_by c.settings.kind ways places step

  abbrev known : Known
  known = known_by c.handle over ways places step

  notes_are : all_notes known ways places ≡ notes_of_headers c s done (carried_from 0 places)
  notes_are = ap (λ (k : Known). all_notes k ways places) (known_is c ways places step s took ws l m covers left) ∙ all_notes_are c s done 0 ways places ws covers

  -- what the code knew
  module _ (o e : Bool) (k : Known) (I : IsOf c ways places step o e k) where
    code_known : k ≡ known
    code_known = I.known ∙ ap (λ (b : Bool). known_by c.handle b ways places step) I.over

    code_notes : all_notes k ways places ≡ notes_of_headers c s done (carried_from 0 places)
    code_notes = ap (λ (x : Known). all_notes x ways places) code_known ∙ notes_are

    code_ends : e ≡ tells_end c done
    code_ends = I.ends ∙ ends_is c ways places step s took ws l m covers left

    code_part : part_by step.fault (ended_by ways places) o c.part ≡ part_after c s done
    code_part = ap (λ (b : Bool). part_by step.fault (ended_by ways places) b c.part) I.over ∙ part_is c ways places step s took ws l m covers left

    told_all : all_notes k ways places ++ (end_note e ++ fault_note step.fault) ≡ notes_after c s done
    told_all =
        ap (λ (ns : List Note). ns ++ (end_note e ++ fault_note step.fault)) code_notes
        ∙ (ap (λ (b : Bool). notes_of_headers c s done (carried_from 0 places) ++ (end_note b ++ fault_note step.fault)) code_ends
        ∙ sym (append_assoc (notes_of_headers c s done (carried_from 0 places)) (end_note (tells_end c done)) (fault_note step.fault)))

    pub comes_to : (d : Component) → d ≡ brought ways places step c o k e → d ≡ stepped_back c s done
    comes_to d q = q ∙ (λ i. record c { work = None; part = code_part i; notes = c.notes ++ told_all i })

    pub stock_comes : (old new : Stocked) → new ≡ all_put k 0 ways places old → new ≡ all_landed c s done (carried_from 0 places) old
    stock_comes old new q = q ∙ (ap (λ (x : Known). all_put x 0 ways places old) (code_known ∙ known_is c ways places step s took ws l m covers left) ∙ all_put_is c s done 0 ways places old ws covers)

    pub notices_come : all_noticed k ways places ++ [] ≡ all_notices c s done 0 places
    notices_come = append-nil (all_noticed k ways places) ∙ (ap (λ (x : Known). all_noticed x ways places) (code_known ∙ known_is c ways places step s took ws l m covers left) ∙ all_notices_are c s done 0 ways places ws covers)

    note_places : (part : PartState) → length (note_numbers (c.notes ++ notes_after c s done)) ≤ 32 * ports_in c.settings.kind → HasNotePlaces (parted part c) (all_notes k ways places)
    note_places part bound =
        let a = headers_both c.notes (notes_after c s done) in
        let b : length (note_numbers (notes_after c s done)) ≡ length (note_numbers (notes_of_headers c s done (carried_from 0 places))) = ap length (after_numbers c s done) in
        let d : length (note_numbers (all_notes k ways places)) ≡ length (note_numbers (notes_of_headers c s done (carried_from 0 places))) = ap (λ (ns : List Note). length (note_numbers ns)) code_notes in
        omega (arith, a, b, d, bound)

    pub all_can : (part : PartState) (stock : Stocked) → AreHomeless c.handle.generation 0 places stock → HaveOwnHeaders places → length (carried_from 0 places) + 2 ≤ room (parted part c)
        → length (note_numbers (c.notes ++ notes_after c s done)) ≤ 32 * ports_in c.settings.kind → AllCanLand k 0 ways places stock (parted part c)
    all_can part stock homeless apart some bound =
        can_all k 0 ways places stock (parted part c) (subst (λ (x : Known). AreHomeless x.component.generation 0 places stock) (sym I.known) homeless) apart covers (omega (arith, some)) (note_places part bound)

-- there is a place left for the end or the fault
pub room_left : (c d : Component) (k : Known) (ways : List Way) (places : List (Option BufferHeader)) → length (carried_from 0 places) + 2 ≤ room c → d ≡ with_notes (all_notes k ways places) c → 0 < room d
room_left c d k ways places some q =
    let r = room_after c (all_notes k ways places) (length (carried_from 0 places)) 2 (all_events k 0 ways places) (omega (arith, some)) in
    subst (λ (x : Component). 0 < room x) (sym q) (omega (arith, r))
