-- A work comes back, in a world whose handles moved.
use Rattle.std.proofs.Common.{◌≡◌, ℕ, zero, suc, ◌+◌, Bool, true, not, ◌&&◌, ◌||◌, cond, nat_lt, is_none, is_some, List, [], ◌∷◌, ◌++◌, slice_get, Option, Some, None, option_map, refl, sym, ◌∙◌, ap, subst}
use Rattle.std.specs.Prelude.{map, MatchOption}
use Rattle.omx_types.specs.declared.command.Event.TheVariants.{PortSettingsChanged}
use Rattle.omx_types.specs.declared.command.Note.{Note}
use Rattle.omx_types.specs.declared.command.Note.TheVariants.{Told}
use Rattle.omx_types.specs.declared.fault.PartFault.{PartFault}
use Rattle.part_api.specs.Terms.{Terms}
use Rattle.il_machine.specs.declared.header.Owner.TheVariants as owners
use Rattle.il_machine.specs.declared.header.Spot.TheVariants.{TodoFront, DoneBack}
use Rattle.il_machine.specs.declared.port.Mark.{Mark}
use Rattle.il_machine.specs.declared.port.Port.{Port}
use Rattle.il_machine.specs.declared.port.PortState.{PortState}
use Rattle.il_machine.specs.Buffers.{load_in}
use Rattle.il_machine.specs.Claims.{CarriedHeader}
use Rattle.il_machine.specs.Due.{ClosesTo}
use Rattle.il_machine.specs.Finishing.{Again, Finish, Landing, Noted, Onward, all_landed, announced, announced_at, carries_on, end_note, ends_by, fault_note, finished, finished_by, gone_through, is_an_input, is_cleared, is_finished, is_own, is_returning, is_tunnelled, key_at, landed_at, landing, landing_note, load_after, mark_after, mark_in, mark_note, mark_on, notes_of_header, notes_of_headers, part_by, stepped_back, tells_end, tells_mark, with_landed}
use Rattle.il_machine.specs.Headers.{given_to, loaded, unloaded}
use Rattle.il_machine.specs.Kinds.{is_sink}
use Rattle.il_machine.specs.Parts.{file_format, terms_of}
use Rattle.il_machine.specs.Ports.{is_joined, returning}
use Rattle.il_machine.specs.Settings.{same_format}
use Rattle.il_machine.specs.Stepping.{WorkDone, ended_from, inputs_ended, is_drained, is_for_port, is_last, is_over}
use Rattle.il_machine.specs.World.{Component, HeaderRecord, Load, Stream, Work, World, changed_at, number_of, place_numbered, port_of, stream_of, with_stream}
use Rattle.machine_laws.proofs.Finding.{either}
use Rattle.slot_laws.specs.Seating.{Seating, moved, moved_carried, moved_component, moved_done, moved_header, moved_load, moved_mark, moved_port, moved_state}
use Rattle.slot_laws.proofs.Lists.{all_moved, any_moved, holds_moved}
use Rattle.slot_laws.proofs.Ports.{at_port_moved, port_moved, port_put}
use Rattle.slot_laws.proofs.Headers.{changed_moved, put_moved}
use Rattle.slot_laws.proofs.Closings.{component_put}
use Rattle.slot_laws.proofs.Naming.{closes_from, number_moved, place_there, same_moved}

module _ (f : Seating) where
  -- ---- what ends

  ended_moved : (t : Terms) (frames : ℕ) (xs : List CarriedHeader) (port count : ℕ) → ended_from t frames (map (moved_carried f) xs) port count ≡ ended_from t frames xs port count
  ended_moved t frames xs port zero = refl
  ended_moved t frames xs port (suc count) =
      let a = all_moved (moved_carried f) (λ x. not (is_for_port port x) || is_last t frames x) (λ x. not (is_for_port port x) || is_last t frames x) xs (λ x. refl) in
      let b = ended_moved t frames xs (port + 1) count in
      λ j. a j ∷ b j

  pub inputs_moved : (t : Terms) (frames : ℕ) (xs : List CarriedHeader) → inputs_ended t frames (map (moved_carried f) xs) ≡ inputs_ended t frames xs
  inputs_moved t frames xs = ended_moved t frames xs 0 _

  mark_told : (o : Option Mark) → mark_note (option_map (moved_mark f) o) ≡ mark_note o
  mark_told None = refl
  mark_told (Some mark) = refl

  module _ (c : Component) (s : Stream) (done : WorkDone) where
    ends_moved : ends_by (moved_component f c) s (moved_done f done) ≡ ends_by c s done
    ends_moved = ap (λ (l : List Bool). is_none done.fault && is_over (terms_of c) s done.frames l) (inputs_moved (terms_of c) 0 done.headers)

    finished_header : (x : CarriedHeader) → is_finished (moved_component f c) s (moved_done f done) (moved_carried f x) ≡ is_finished c s done x
    finished_header x = ap (λ (b : Bool). is_none done.fault && cond (is_an_input c x) (is_drained (terms_of c) 0 x) (nat_lt 0 done.frames || b)) ends_moved

    returning_header : (x : CarriedHeader) → is_returning (moved_component f c) (moved_carried f x) ≡ is_returning c x
    returning_header x = at_port_moved f c x.port (returning (moved_component f c)) (returning c) (λ p. refl)

    tunnelled_header : (x : CarriedHeader) → is_tunnelled (moved_component f c) (moved_carried f x) ≡ is_tunnelled c x
    tunnelled_header x = at_port_moved f c x.port is_joined is_joined (λ p. refl)

    landing_moved : (x : CarriedHeader) → landing (moved_component f c) s (moved_done f done) (moved_carried f x) ≡ landing c s done x
    landing_moved x =
        let a = finished_header x in
        let b = returning_header x in
        let d = tunnelled_header x in
        λ j. cond (not (d j) && (a j || b j)) Noted (cond (a j && not (b j)) Onward Again)

    -- ---- marks

    own_moved : (mark : Mark) → is_own (moved_component f c) (moved_mark f mark) ≡ is_own c mark
    own_moved mark = same_moved f mark.target c.handle

    tells_moved : (x : CarriedHeader) → tells_mark (moved_component f c) s (moved_done f done) (moved_carried f x) ≡ tells_mark c s done x
    tells_moved x =
        let a = finished_header x in
        let b = returning_header x in
        let d = holds_moved (moved_mark f) (is_own (moved_component f c)) (is_own c) x.header.mark own_moved in
        λ j. a j && (is_an_input c x || not (b j)) && d j

    carries_moved : (x : CarriedHeader) → carries_on (moved_component f c) s (moved_done f done) (moved_carried f x) ≡ carries_on c s done x
    carries_moved x =
        let a = finished_header x in
        let d = holds_moved (moved_mark f) (λ mark. not (is_own (moved_component f c) mark)) (λ mark. not (is_own c mark)) x.header.mark (λ mark. ap not (own_moved mark)) in
        λ j. is_an_input c x && a j && d j

    mark_found : (xs : List CarriedHeader) → mark_in (moved_component f c) s (moved_done f done) (map (moved_carried f) xs) ≡ option_map (moved_mark f) (mark_in c s done xs)
    mark_found [] = refl
    mark_found (x ∷ xs) =
        let a = carries_moved x in
        let b = mark_found xs in
        (λ j. cond (a j) (option_map (moved_mark f) x.header.mark) (b j)) ∙ either (carries_on c s done x) (λ t. rw t refl) (λ e. rw e refl)

    mark_kept : (o m : Option Mark) → mark_after (moved_component f c) (option_map (moved_mark f) o) (option_map (moved_mark f) m) ≡ option_map (moved_mark f) (mark_after c o m)
    mark_kept None m = refl
    mark_kept (Some own) m =
        let a = own_moved own in
        (λ j. cond (a j) (option_map (moved_mark f) m) (Some (moved_mark f own))) ∙ either (is_own c own) (λ t. rw t refl) (λ e. rw e refl)

    -- ---- what each header carries then

    cleared_header : (x : CarriedHeader) → is_cleared (moved_component f c) s (moved_done f done) (moved_carried f x) ≡ is_cleared c s done x
    cleared_header x =
        let a = finished_header x in
        let b = returning_header x in
        λ j. b j || cond (is_an_input c x) (a j) (is_some done.fault)

    load_moved : (x : CarriedHeader) → load_after (moved_component f c) s (moved_done f done) (moved_carried f x) ≡ moved_load f (load_after c s done x)
    load_moved x =
        let load : Load = load_in x.header in
        let a = finished_header x in
        let b = cleared_header x in
        let m = ap (mark_after (moved_component f c) (option_map (moved_mark f) x.header.mark)) (mark_found done.headers) ∙ mark_kept x.header.mark (mark_on c s done) in
        (λ j. cond (b j) (unloaded (moved_load f load)) (cond (a j) (record (moved_load f load) { mark = m j }) (moved_load f load)))
        ∙ either (is_cleared c s done x) (λ t. rw t refl) (λ e. rw e (either (is_finished c s done x) (λ t. rw t refl) (λ g. rw g refl)))

    landed_moved : (l : Landing) (x : CarriedHeader) (load : Load) (hs : List HeaderRecord)
        → landed_at l (moved_component f c) (moved_carried f x) (moved_load f load) (map (moved_header f) hs) ≡ map (moved_header f) (landed_at l c x load hs)
    landed_moved Again x load hs = put_moved f (key_at c x) TodoFront x.header.number (loaded (moved_load f load)) (loaded load) hs (λ r. refl)
    landed_moved Onward x load hs = put_moved f (key_at c x) DoneBack x.header.number (loaded (moved_load f load)) (loaded load) hs (λ r. refl)
    landed_moved Noted x load hs =
        changed_moved f x.header.number (λ r. given_to (owners.Notice (number_of c)) (loaded (moved_load f load) r)) (λ r. given_to (owners.Notice (number_of c)) (loaded load r)) hs (λ r. refl)

    all_landed_moved : (xs : List CarriedHeader) (hs : List HeaderRecord)
        → all_landed (moved_component f c) s (moved_done f done) (map (moved_carried f) xs) (map (moved_header f) hs) ≡ map (moved_header f) (all_landed c s done xs hs)
    all_landed_moved [] hs = refl
    all_landed_moved (x ∷ xs) hs =
        (λ j. all_landed (moved_component f c) s (moved_done f done) (map (moved_carried f) xs)
        (landed_at (landing_moved x j) (moved_component f c) (moved_carried f x) (load_moved x j) (map (moved_header f) hs)))
        ∙ (ap (all_landed (moved_component f c) s (moved_done f done) (map (moved_carried f) xs)) (landed_moved (landing c s done x) x (load_after c s done x) hs)
        ∙ all_landed_moved xs (landed_at (landing c s done x) c x (load_after c s done x) hs))

    -- ---- notes

    noted_moved : (l : Landing) (x : CarriedHeader) → landing_note l (moved_component f c) (moved_carried f x) ≡ landing_note l c x
    noted_moved Again x = refl
    noted_moved Onward x = refl
    noted_moved Noted x = refl

    header_notes : (x : CarriedHeader) → notes_of_header (moved_component f c) s (moved_done f done) (moved_carried f x) ≡ notes_of_header c s done x
    header_notes x =
        let a = tells_moved x in
        let b = mark_told x.header.mark in
        let d = ap (λ (l : Landing). landing_note l (moved_component f c) (moved_carried f x)) (landing_moved x) ∙ noted_moved (landing c s done x) x in
        λ j. cond (a j) (b j) [] ++ d j

    all_notes : (xs : List CarriedHeader) → notes_of_headers (moved_component f c) s (moved_done f done) (map (moved_carried f) xs) ≡ notes_of_headers c s done xs
    all_notes [] = refl
    all_notes (x ∷ xs) =
        let a = header_notes x in
        let b = all_notes xs in
        λ j. a j ++ b j

    end_moved : tells_end (moved_component f c) (moved_done f done) ≡ tells_end c done
    end_moved =
        let a = any_moved (moved_carried f) (is_last (terms_of c) 0) (is_last (terms_of c) 0) done.headers (λ x. refl) in
        λ j. is_sink c.settings.kind && is_none done.fault && a j

    part_moved : (o : Option PartFault) → part_by (moved_component f c) s (moved_done f done) o ≡ part_by c s done o
    part_moved None =
        let a = inputs_moved (terms_of c) 0 done.headers in
        let b = ends_moved in
        λ j. record c.part { ended_inputs = a j; ended = c.part.ended || b j }
    part_moved (Some fault) = refl

    back_moved : stepped_back (moved_component f c) s (moved_done f done) ≡ moved_component f (stepped_back c s done)
    back_moved =
        let a = all_notes done.headers in
        let b = end_moved in
        let d = part_moved done.fault in
        λ j. record (moved_component f c) { work = None; part = d j; notes = c.notes ++ (a j ++ end_note (b j) ++ fault_note done.fault) }

    world_moved : (i : ℕ) (w : World) → with_landed i (moved_component f c) (moved_done f done) s (moved f w) ≡ moved f (with_landed i c done s w)
    world_moved i w =
        let a = component_put f i (stepped_back (moved_component f c) s (moved_done f done)) (stepped_back c s done) w back_moved in
        let b = all_landed_moved done.headers w.headers in
        λ j. record (with_stream (number_of c) (gone_through done) (a j)) { headers = b j }

  -- ---- an announcement

  announced_moved : (o : Option Port) (d : Component) → announced_at (option_map (moved_port f) o) (moved_component f d) ≡ moved_component f (announced_at o d)
  announced_moved None d = refl
  announced_moved (Some p) d =
      let s : PortState = record p.state { held = true } in
      let a = port_put f p.key.port (moved_state f s) s d refl in
      either (same_format p.setting.definition.format (file_format d.file)) (λ t. rw t refl)
      (λ e. rw e (λ j. record (a j) { notes = d.notes ++ told_changed p }))
    where
      told_changed : Port → List Note
      told_changed p = Told (PortSettingsChanged p.key.port) ∷ []

  through_moved : (i : ℕ) (c : Component) (done : WorkDone) (o : Option Stream) (w : World)
      → changed_at o (moved f w) (λ s. with_landed i (moved_component f c) (moved_done f done) s (moved f w)) ≡ moved f (changed_at o w (λ s. with_landed i c done s w))
  through_moved i c done None w = refl
  through_moved i c done (Some s) w = world_moved c s done i w

  by_work : (i : ℕ) (c : Component) (done : WorkDone) (o : Option Work) (w : World) → finished_by i (moved_component f c) (moved_done f done) o (moved f w) ≡ moved f (finished_by i c done o w)
  by_work i c done None w = refl
  by_work i c done (Some work) w = either work.announces
      (λ t. rw t (component_put f i (announced (moved_component f c)) (announced c) w
      (ap (λ (o : Option Port). announced_at o (moved_component f (record c { work = None }))) (port_moved f c 0) ∙ announced_moved (port_of c 0) (record c { work = None }))))
      (λ e. rw e (through_moved i c done (stream_of (number_of c) w) w))

  pub finish_goes : (w : World) (done : WorkDone) (v : World) → Finish w done v → Finish (moved f w) (moved_done f done) (moved f v)
  finish_goes w done v F =
      subst (λ (o : Option ℕ). MatchOption o ⊥ (λ i. MatchOption (slice_get (moved f w).components i) ⊥ (λ c. ClosesTo (finished i c (moved_done f done) (moved f w)) (moved f v))))
      (sym (number_moved f done.component w.components))
      (place_there f (place_numbered done.component w.components) w (λ i c. ClosesTo (finished i c done w) v) (λ i c. ClosesTo (finished i c (moved_done f done) (moved f w)) (moved f v)) ⊥ ⊥ (λ no. no)
      (λ i c e C. closes_from f (finished i (moved_component f c) (moved_done f done) (moved f w)) (finished i c done w) v (by_work i c done c.work w) C) F)
