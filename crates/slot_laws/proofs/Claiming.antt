-- A component's work is claimed, in a world whose handles moved.
use Rattle.std.proofs.Common.{◌≡◌, ℕ, ◌+◌, Bool, not, ◌&&◌, ◌||◌, cond, nat_lt, is_some, List, [], ◌∷◌, ◌++◌, filter, Option, Some, None, option_map, refl, sym, ◌∙◌, ap, subst}
use Rattle.std.specs.Prelude.{map, Result, Ok}
use Rattle.omx_types.specs.declared.handle.Handle.{Handle}
use Rattle.omx_types.specs.declared.error.OmxError.{OmxError}
use Rattle.il_machine.specs.declared.header.Owner.TheVariants as owners
use Rattle.il_machine.specs.declared.port.Port.{Port}
use Rattle.il_machine.specs.Answers.{plain}
use Rattle.il_machine.specs.Claims.{Claim, Claimed, ClaimedBusy, ClaimedEnded, ClaimedEvents, ClaimedNotRunning, ClaimedWork, Claims, all_given_out, carried, carried_by, claim_idle, data_test, gives_header, held_test, is_claimable, is_output_port, is_unannounced, must_announce, first_picked, picked, reserve_for, room_test, seen_work, wanted, with_work, work_of}
use Rattle.il_machine.specs.Due.{ClosesTo}
use Rattle.il_machine.specs.Headers.{Seen, changed, find_header, given_to, seen}
use Rattle.il_machine.specs.Kinds.{is_auto}
use Rattle.il_machine.specs.Lists.{first_of_these}
use Rattle.il_machine.specs.Look.{look}
use Rattle.il_machine.specs.Ports.{is_at_rest, is_input_port, is_open}
use Rattle.il_machine.specs.Room.{room}
use Rattle.il_machine.specs.States.{is_executing}
use Rattle.il_machine.specs.World.{Component, HeaderRecord, Picked, Work, World, number_of, ports_of}
use Rattle.machine_laws.proofs.Finding.{either}
use Rattle.slot_laws.specs.Seating.{Seating, mapped, moved, moved_carried, moved_claimed, moved_component, moved_handle, moved_header, moved_port}
use Rattle.slot_laws.proofs.Lists.{Alike, alike_append, filter_moved, first_alike, map_length}
use Rattle.slot_laws.proofs.Ports.{all_ports, any_ports, ports_moved}
use Rattle.slot_laws.proofs.Headers.{changed_moved, find_moved, seen_moved}
use Rattle.slot_laws.proofs.Closings.{component_put}
use Rattle.slot_laws.proofs.Naming.{Carries, by_map, closes_from, resolving_moved}
use Rattle.slot_laws.proofs.Rooms.{room_moved}

module _ (f : Seating) where
  -- ---- what a work takes

  announce_moved : (c : Component) → must_announce (moved_component f c) ≡ must_announce c
  announce_moved c = any_ports f c (is_unannounced (moved_component f c)) (is_unannounced c) (λ p. refl)

  wanted_moved : (c : Component) → wanted (moved_component f c) ≡ map (moved_port f) (wanted c)
  wanted_moved c =
      let a = announce_moved c in
      let b = ap (filter (gives_header (moved_component f c))) (ports_moved f c) ∙ filter_moved (moved_port f) (gives_header (moved_component f c)) (gives_header c) (ports_of c) (λ p. refl) in
      (λ j. cond (a j) [] (b j)) ∙ either (must_announce c) (λ t. rw t refl) (λ e. rw e refl)

  -- ---- why there is none

  tests_alike : (t s : Port → Bool × Claimed) (ps : List Port) → ((p : Port) → ((t (moved_port f p)).0 ≡ (s p).0) × ((t (moved_port f p)).1 ≡ moved_claimed f (s p).1))
      → Alike (moved_claimed f) (map t (map (moved_port f) ps)) (map s ps)
  tests_alike t s [] same = tt
  tests_alike t s (p ∷ ps) same = ((same p).0, (same p).1, tests_alike t s ps same)

  held_alike : (c : Component) → Alike (moved_claimed f) (map (held_test (moved_component f c)) (ports_of (moved_component f c))) (map (held_test c) (ports_of c))
  held_alike c =
      subst (λ (ps : List Port). Alike (moved_claimed f) (map (held_test (moved_component f c)) ps) (map (held_test c) (ports_of c))) (sym (ports_moved f c))
      (tests_alike (held_test (moved_component f c)) (held_test c) (ports_of c)
      (λ p. (ap (λ (b : Bool). not b && (p.state.held || is_auto p.setting.definition.format)) (announce_moved c), refl)))

  ports_alike : (c : Component) (test : Port → Bool) (t : Port → Bool × Claimed) → ((p : Port) → test (moved_port f p) ≡ test p)
      → ((p : Port) → ((t (moved_port f p)).0 ≡ (t p).0) × ((t (moved_port f p)).1 ≡ moved_claimed f (t p).1))
      → Alike (moved_claimed f) (map t (filter test (wanted (moved_component f c)))) (map t (filter test (wanted c)))
  ports_alike c test t tests same =
      subst (λ (ps : List Port). Alike (moved_claimed f) (map t ps) (map t (filter test (wanted c))))
      (sym (ap (filter test) (wanted_moved c) ∙ filter_moved (moved_port f) test test (wanted c) tests))
      (tests_alike t t (filter test (wanted c)) same)

  reserve_moved : (c : Component) → reserve_for (wanted (moved_component f c)) ≡ reserve_for (wanted c)
  reserve_moved c = ap reserve_for (wanted_moved c) ∙ ap (λ (n : ℕ). n + 2) (map_length (moved_port f) (wanted c))

  claimable_moved : (c : Component) → is_claimable (moved_component f c) ≡ is_claimable c
  claimable_moved c = ap (λ (b : Bool). is_executing c.state && is_at_rest c && b) (all_ports f c is_open is_open (λ p. refl))

  abbrev claim_list : Seen → Component → List (Bool × Claimed)
  claim_list headers c =
      (is_some c.work, ClaimedBusy)
      ∷ (not (is_claimable c), ClaimedNotRunning)
      ∷ (c.part.ended || c.part.failed, ClaimedEnded)
      ∷ map (held_test c) (ports_of c)
      ++ map (data_test headers) (filter is_input_port (wanted c))
      ++ map (room_test headers) (filter is_output_port (wanted c))
      ++ (nat_lt (room c) (reserve_for (wanted c)), ClaimedEvents (room c) (reserve_for (wanted c)))
      ∷ []

  claim_alike : (headers : Seen) (c : Component) → Alike (moved_claimed f) (claim_list headers (moved_component f c)) (claim_list headers c)
  claim_alike headers c =
      let n = room_moved f c in
      let m = reserve_moved c in
      let held = map (held_test c) (ports_of c) in
      let inputs = map (data_test headers) (filter is_input_port (wanted c)) in
      let rooms = map (room_test headers) (filter is_output_port (wanted c)) in
      let helds = map (held_test (moved_component f c)) (ports_of (moved_component f c)) in
      let datas = map (data_test headers) (filter is_input_port (wanted (moved_component f c))) in
      let roomy = map (room_test headers) (filter is_output_port (wanted (moved_component f c))) in (
        refl,
        refl,
        (
          ap not (claimable_moved c),
          refl,
          (
            refl,
            refl,
            alike_append (moved_claimed f) (helds ++ datas ++ roomy) _ (held ++ inputs ++ rooms) _
                (alike_append (moved_claimed f) (helds ++ datas) roomy (held ++ inputs) rooms
                (alike_append (moved_claimed f) helds datas held inputs (held_alike c) (ports_alike c is_input_port (data_test headers) (λ p. refl) (λ p. (refl, refl))))
                (ports_alike c is_output_port (room_test headers) (λ p. refl) (λ p. (refl, refl))))
                ((λ j. nat_lt (n j) (m j)), (λ j. ClaimedEvents (n j) (m j)), tt),
          ),
        ),
      )

  claim_reason : (w : World) (c : Component) → claim_idle (look (moved f w)) (moved_component f c) ≡ option_map (moved_claimed f) (claim_idle (look w) c)
  claim_reason w c =
      (λ j. first_of_these (claim_list (seen_moved f w.headers j) (moved_component f c)))
      ∙ first_alike (moved_claimed f) (claim_list (seen w.headers) (moved_component f c)) (claim_list (seen w.headers) c) (claim_alike (seen w.headers) c)

  -- ---- the work

  picked_moved : (headers : Seen) (ps : List Port) → picked headers (map (moved_port f) ps) ≡ picked headers ps
  picked_moved headers [] = refl
  picked_moved headers (p ∷ ps) = ap (first_picked (moved_port f p) (headers.todo p.key)) (picked_moved headers ps) ∙ go (headers.todo p.key)
    where
      go : (ns : List ℕ) → first_picked (moved_port f p) ns (picked headers ps) ≡ first_picked p ns (picked headers ps)
      go [] = refl
      go (n ∷ ns) = refl

  work_moved : (headers : Seen) (c : Component) → work_of headers (moved_component f c) ≡ work_of headers c
  work_moved headers c =
      let a = ap (picked headers) (wanted_moved c) ∙ picked_moved headers (wanted c) in
      let b = announce_moved c in
      λ j. record { headers = a j; gain = c.settings.gain; weights = c.settings.weights; announces = b j }

  given_out_moved : (number : ℕ) (xs : List Picked) (hs : List HeaderRecord) → all_given_out number xs (map (moved_header f) hs) ≡ map (moved_header f) (all_given_out number xs hs)
  given_out_moved number [] hs = refl
  given_out_moved number (x ∷ xs) hs =
      ap (all_given_out number xs) (changed_moved f x.number (given_to (owners.Work number)) (given_to (owners.Work number)) hs (λ r. refl))
      ∙ given_out_moved number xs (changed x.number (given_to (owners.Work number)) hs)

  pub carried_moved : (hs : List HeaderRecord) (xs : List Picked) → carried (map (moved_header f) hs) xs ≡ map (moved_carried f) (carried hs xs)
  carried_moved hs [] = refl
  carried_moved hs (x ∷ xs) = (λ j. carried_by x.port (find_moved f x.number hs j) (carried_moved hs xs j)) ∙ go (find_header x.number hs)
    where
      go : (o : Option HeaderRecord) → carried_by x.port (option_map (moved_header f) o) (map (moved_carried f) (carried hs xs)) ≡ map (moved_carried f) (carried_by x.port o (carried hs xs))
      go None = refl
      go (Some r) = refl

  work_put : (i : ℕ) (c : Component) (work : Work) (w : World) → with_work i (moved_component f c) work (moved f w) ≡ moved f (with_work i c work w)
  work_put i c work w =
      let a = component_put f i (record (moved_component f c) { work = Some work }) (record c { work = Some work }) w refl in
      let b = given_out_moved (number_of c) work.headers w.headers in
      λ j. record (a j) { headers = b j }

  seen_there : (c : Component) (work : Work) (hs : List HeaderRecord) → moved_claimed f (ClaimedWork (seen_work c work hs)) ≡ ClaimedWork (seen_work (moved_component f c) work (map (moved_header f) hs))
  seen_there c work hs = let a = sym (carried_moved hs work.headers) in λ j. ClaimedWork (record (seen_work c work hs) { headers = a j })

  module _ (i : ℕ) (c : Component) (w v : World) (r s : Result Claimed OmxError) (carries : Carries (moved_claimed f) r s) where
    abbrev ClaimsWork : Work → Type 0
    ClaimsWork work = (s ≡ Ok (ClaimedWork (seen_work (moved_component f c) work (moved f w).headers))) × ClosesTo (with_work i (moved_component f c) work (moved f w)) (moved f v)

    claims_moved : (o : Option Claimed) → Claims o i c w r v → Claims (option_map (moved_claimed f) o) i (moved_component f c) (moved f w) s (moved f v)
    claims_moved (Some idle) h = (carries.ok idle h.0, ap (moved f) h.1)
    claims_moved None h =
        let work : Work = work_of (seen w.headers) c in
        subst ClaimsWork (sym ((λ j. work_of (seen_moved f w.headers j) (moved_component f c)) ∙ work_moved (seen w.headers) c)) (
          carries.ok (ClaimedWork (seen_work c work w.headers)) h.0 ∙ ap Ok (seen_there c work w.headers),
          closes_from f (with_work i (moved_component f c) work (moved f w)) (with_work i c work w) v (work_put i c work w) h.1,
        )

  pub claim_goes : (w : World) (h : Handle) (r : Result Claimed OmxError) (v : World) → Claim w h r v → Claim (moved f w) (moved_handle f h) (mapped (moved_claimed f) r) (moved f v)
  claim_goes w h r v R = resolving_moved f plain (moved_claimed f) w v r (mapped (moved_claimed f) r) (by_map (moved_claimed f) r) h
      (λ i c. Claims (claim_idle (look w) c) i c w r v)
      (λ i c. Claims (claim_idle (look (moved f w)) c) i c (moved f w) (mapped (moved_claimed f) r) (moved f v))
      (λ i c A. subst (λ (o : Option Claimed). Claims o i (moved_component f c) (moved f w) (mapped (moved_claimed f) r) (moved f v)) (sym (claim_reason w c))
      (claims_moved i c w v r (mapped (moved_claimed f) r) (by_map (moved_claimed f) r) (claim_idle (look w) c) A)) R
