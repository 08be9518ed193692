-- A work goes out, in each world that a graph stands for.
use Rattle.std.proofs.Common.{◌≡◌, ◌≢◌, inl, inr, ℕ, suc, ◌+◌, ◌≤◌, Bool, true, List, [], ◌∷◌, length, map, filter, set, slice_get, All, MatchOption, Option, Some, None, option_map, refl, sym, ◌∙◌, ap, subst, arith}
use Rattle.std.proofs.lemmas.Bool.Decides.{eqb_tells}
use Rattle.std.proofs.lemmas.Option.{slice_get-map}
use Rattle.std.proofs.lemmas.List.Elements.{All-nil, All-cons}
use Rattle.il_machine.specs.declared.answer.Progress.{Progress}
use Rattle.il_machine.specs.declared.port.PortKey.{PortKey}
use Rattle.il_machine.specs.declared.header.Owner.{Owner}
use Rattle.il_machine.specs.declared.header.Owner.TheVariants as owners
use Rattle.il_machine.specs.World.{Component, HeaderRecord, Picked, Work, World, number_of, ports_of, with_component}
use Rattle.il_machine.specs.Headers.{Seen, seen, find_header, changed, given_to, is_notice, Once}
use Rattle.il_machine.specs.Look.{Look, look}
use Rattle.il_machine.specs.Room.{used, work_reserve}
use Rattle.il_machine.specs.Components.{progress_of}
use Rattle.il_machine.specs.Stock.{Stocked, StandsFor}
use Rattle.il_machine.specs.Sound.{Sound}
use Rattle.il_machine.specs.Buffers.{held}
use Rattle.il_machine.specs.Claims.{all_given_out, carried, claim_idle, must_announce, picked, wanted, with_work, work_of}
use Rattle.il_machine.specs.Whole.{HasProgress, IsNoticed, Kept, Noticed}
use Rattle.stock_laws.specs.Bare.{AlwaysBare, StepsBare}
use Rattle.machine_laws.proofs.Claiming.{AreInPorts, claim_passes, headers_in, picked_length, sound_claimed}
use Rattle.machine_laws.proofs.Finding.{changed_else}
use Rattle.machine_laws.proofs.Listed.{todo_in}
use Rattle.stock_laws.proofs.Lists.{get_set_same, get_set_other, map_set}
use Rattle.stock_laws.proofs.Entries.{set_same}
use Rattle.stock_laws.proofs.Lifting.{progress_number, with_look}
use Rattle.stock_laws.proofs.Stocking.{lift_stock, stands_for, with_headers}
use Rattle.il_component.specs.Entries.{Entry, component_of, KeepsNotices}
use Rattle.il_component.proofs.Fit.{same_costs}
use Rattle.port_stock.specs.Kept.{StockKept, stocked}
use Rattle.header_core.specs.BufferHeader.{BufferHeader}
use Rattle.graph_core.specs.Claiming.{HasFronts, all_out, carried_from, gives_to}
use Rattle.graph_core.proofs.Carried.{work_carried}
use Rattle.graph_core.specs.Standing.{SoundWorld}
use Rattle.graph_core.specs.Entries.{Entries, changed_at, component_at, kept, look_of}
use Rattle.graph_core.proofs.Picked.{out_stands, out_stays, wanted_is}
use Rattle.graph_core.proofs.Replacing.{kept_changed, next_world, there}
use Rattle.graph_core.proofs.Stepping.{at_world, made_of, seen_of, stock_of, with_stocked}

-- ---- the component has a work

abbrev pub working : Work → Component → Component
working work c = record c { work = Some work }

working_progress : (clients : List (Option Progress)) (w : World) (i : ℕ) (c : Component) (work : Work) → slice_get w.components i ≡ Some c → HasProgress clients w → HasProgress clients (with_component i (working work c) w)
working_progress clients w i c work at P = λ j d h out.
    let e : Component = working work c in
    let same : j ≡ i → slice_get clients j ≡ Some (Some (progress_of d w)) = λ q.
    let g : Some d ≡ Some e = sym h ∙ rw q (get_set_same w.components i c e at) in
    let r : d ≡ e = cc in
    let p = P i c at (ap (λ (x : Component). x.client_out) (sym r) ∙ out) in
    let n : number_of d ≡ number_of c = ap number_of r in
    rw q (p ∙ ap (λ (x : Progress). Some (Some x)) (sym (progress_number d c w n))) in
    let other : j ≢ i → slice_get clients j ≡ Some (Some (progress_of d w)) = λ q. P j d (sym (get_set_other w.components i j e q) ∙ h) out in
    elim (eqb_tells j i) [ inl q ↦ same q.1 | inr q ↦ other q.1 ]

lift_working : (k : Kept) (i : ℕ) (c : Component) (work : Work) → slice_get k.looks.components i ≡ Some c → StepsBare k (with_look i (working work c) k) (λ w v. v ≡ with_component i (working work c) w)
lift_working k i c work at = λ w S.
    let d : Component = working work c in
    let cs : w.components ≡ k.looks.components = ap (λ (l : Look). l.components) S.looks in
    let here : slice_get w.components i ≡ Some c = ap (λ (xs : List Component). slice_get xs i) cs ∙ at in
    let numbers : map number_of (set w.components i d) ≡ map number_of w.components = map_set number_of w.components i d ∙ set_same (map number_of w.components) i (number_of c) (slice_get-map number_of w.components i ∙ ap (option_map number_of) here) in (
      with_component i d w,
      record {
        looks = ap (λ (l : Look). record l { components = set l.components i d }) S.looks;
        loads = S.loads;
        noticed = S.noticed;
        progress = working_progress k.clients w i c work here S.progress;
        streams = S.streams ∙ sym numbers;
        once = S.once;
        given = S.given;
      },
      refl,
    )

-- ---- headers in notices stay

given_elsewhere : (k m : ℕ) (xs : List Picked) (hs : List HeaderRecord) → All (λ x. m ≢ x.number) xs → find_header m (all_given_out k xs hs) ≡ find_header m hs
given_elsewhere k m [] hs A = refl
given_elsewhere k m (x ∷ xs) hs A =
    given_elsewhere k m xs (changed x.number (given_to (owners.Work k)) hs) (λ j d b. A (suc j) d (omega arith))
    ∙ changed_else (given_to (owners.Work k)) (λ r. refl) x.number m hs (A 0 x (omega arith))

notice_clash : (o : Option HeaderRecord) (r : HeaderRecord) (key : PortKey) (P : HeaderRecord → Type 0) → o ≡ Some r → r.state.owner ≡ owners.Port key → MatchOption o ⊥ (λ s. P s × (is_notice s.state.owner ≡ true)) → ⊥
notice_clash None r key P e f h = h
notice_clash (Some s) r key P e f h =
    let q : s ≡ r = cc in
    let a : is_notice s.state.owner ≡ true = h.1 in
    let b : is_notice (owners.Port key) ≡ true = subst (λ (x : Owner). is_notice x ≡ true) (ap (λ (x : HeaderRecord). x.state.owner) q ∙ f) a in
    absurd cc

notice_first : (o : Option HeaderRecord) (h : Noticed) → MatchOption o ⊥ (λ r. (held r ≡ h.held) × (is_notice r.state.owner ≡ true) × (r.state.client_memory ≡ h.client_memory)) → MatchOption o ⊥ (λ s. (held s ≡ h.held) × (is_notice s.state.owner ≡ true))
notice_first None h n = n
notice_first (Some r) h n = (n.0, n.1)

notice_apart : (k from m : ℕ) (w : World) (h : Noticed) (xs : List Picked) → IsNoticed w h → AreInPorts k from w.headers xs → All (λ x. h.held.number ≢ x.number) xs
notice_apart k from m w h [] N A = All-nil (λ x. h.held.number ≢ x.number)
notice_apart k from m w h (x ∷ xs) N A =
    let I = A.1 in
    let apart : h.held.number ≢ x.number = λ e. notice_clash (find_header h.held.number w.headers) I.header (record { component = k; port = x.port }) (λ s. held s ≡ h.held) (ap (λ (n : ℕ). find_header n w.headers) e ∙ I.found) I.owner (notice_first (find_header h.held.number w.headers) h N.1) in
    All-cons (λ y. h.held.number ≢ y.number) x xs apart (notice_apart k (suc x.port) m w h xs N A.2)

-- ---- its places

pub used_working : (c : Component) (work : Work) → c.work ≡ None → used (working work c) ≡ used c + (length work.headers + 2)
used_working c work e =
    let n : work_reserve c.work ≡ 0 = ap work_reserve e in
    omega (arith, n, same_costs (working work c) c refl c.commands)

pub has_room : (l : Look) (c : Component) (work : Work) → claim_idle l c ≡ None → work.headers ≡ picked l.headers (wanted c) → used (working work c) ≤ 256
has_room l c work h e =
    let P = claim_passes l c h in
    let n : length work.headers ≤ length (wanted c) = rw e (picked_length l.headers (wanted c)) in
    omega (arith, used_working c work P.free, P.room, n)

-- ---- the work goes out

module _ {C : Type 0} (progress : C → Progress) (g : Entries C) (i : ℕ) (e d : Entry C) (after : StockKept) (work : Work) (a : Bool) (W : SoundWorld (kept progress g)) (at : slice_get g.entries i ≡ Some e) (is : component_of d ≡ working work (component_of e)) (N : KeepsNotices e d)
    (picks : work ≡ work_of (look_of g).headers (component_of e)) (tells : a ≡ must_announce (component_of e)) (goes : stocked after ≡ all_out (number_of (component_of e)) 0 (map (gives_to a (component_of e)) (ports_of (component_of e))) (stocked g.stock)) where
  abbrev c : Component
  c = component_of e

  abbrev s : Stocked
  s = stocked g.stock

  abbrev pub then : Entries C
  then = with_stocked progress after (changed_at i d g)

  abbrev out : List HeaderRecord → List HeaderRecord
  out hs = all_given_out (number_of c) work.headers hs

  headers_are : work.headers ≡ picked s.headers (filter (gives_to a c) (ports_of c))
  headers_are = ap (λ (x : Work). x.headers) picks ∙ ap (picked s.headers) (wanted_is a c tells)

  stock_stands : (hs : List HeaderRecord) → StandsFor s hs → StandsFor (stocked after) (out hs)
  stock_stands hs S =
      let T = out_stands (number_of c) 0 (gives_to a c) c.settings.ports c.ports s.headers s hs S (λ port b. refl) in
      rw goes (subst (λ (xs : List Picked). StandsFor (all_out (number_of c) 0 (map (gives_to a c) (ports_of c)) s) (all_given_out (number_of c) xs hs)) (sym headers_are) T)

  steps_component : StepsBare (kept progress g) (kept progress (changed_at i d g)) (λ w v. v ≡ with_component i (working work c) w)
  steps_component = subst (λ (k : Kept). StepsBare (kept progress g) k (λ w v. v ≡ with_component i (working work c) w)) (sym (kept_changed progress g i e d at N ∙ ap (λ (x : Component). with_look i x (kept progress g)) is))
      (lift_working (kept progress g) i c work (there progress g i e at))

  in_ports : (w : World) → Once w.headers → seen w.headers ≡ s.headers → AreInPorts (number_of c) 0 w.headers work.headers
  in_ports w once look = subst (λ (x : Work). AreInPorts (number_of c) 0 w.headers x.headers) (ap (λ (t : Seen). work_of t c) look ∙ sym picks) (headers_in w.headers c (λ key. todo_in key w.headers once))

  steps_stock : StepsBare (kept progress (changed_at i d g)) (kept progress then) (λ w v. v ≡ with_headers (out w.headers) (stocked after).next w)
  steps_stock = lift_stock (kept progress (changed_at i d g)) (stocked after) (λ w. out w.headers) (ap (λ (t : Stocked). t.key) goes ∙ (out_stays (number_of c) 0 (map (gives_to a c) (ports_of c)) s).key)
      (λ w S. stock_stands w.headers (stands_for s (kept progress (changed_at i d g)) w (record { headers = refl; made = refl; loads = refl }) S))
      (λ w S. λ j h b. given_elsewhere (number_of c) _ work.headers w.headers (notice_apart (number_of c) 0 0 w _ work.headers (S.noticed j h b) (in_ports w S.once (ap (λ (l : Look). l.headers) S.looks))))

  next_is : (stocked after).next ≡ s.next
  next_is = ap (λ (t : Stocked). t.next) goes ∙ (out_stays (number_of c) 0 (map (gives_to a c) (ports_of c)) s).next

  pub claimed_steps : StepsBare (kept progress g) (kept progress then) (λ w v. v ≡ with_work i c (work_of (seen w.headers) c) w)
  claimed_steps = λ w S.
      let x = steps_component w S in
      let y = steps_stock x.0 x.1 in
      let same : work_of (seen w.headers) c ≡ work = ap (λ (t : Seen). work_of t c) (seen_of progress g w S) ∙ sym picks in
      let made : (stocked after).next ≡ w.made = next_is ∙ sym (made_of progress g w S) in
      let first : y.0 ≡ with_headers (out w.headers) (stocked after).next (with_component i (working work c) w) = y.2 ∙ ap (λ (v : World). with_headers (out v.headers) (stocked after).next v) x.2 in
      let second : y.0 ≡ with_work i c work w = first ∙ ap (λ (n : ℕ). with_headers (out w.headers) n (with_component i (working work c) w)) made in
      (y.0, y.1, second ∙ ap (λ (x : Work). with_work i c x w) (sym same))

  pub claimed_worlds : claim_idle (look_of g) c ≡ None → SoundWorld (kept progress then)
  claimed_worlds idle = next_world (kept progress g) (kept progress then) (λ w v. v ≡ with_work i c (work_of (seen w.headers) c) w) W claimed_steps
      (λ w v S f sound. subst Sound (sym f) (sound_claimed w i c sound (at_world progress g i e w S at) (ap (λ (l : Look). claim_idle l c) S.looks ∙ idle)))

  pub claimed_returns : MatchOption (component_at i g) ⊥ (λ c. StepsBare (kept progress g) (kept progress then) (λ w v. v ≡ with_work i c (work_of (seen w.headers) c) w))
  claimed_returns = rw (there progress g i e at) claimed_steps

  pub claimed_ports : (stocked after).ports ≡ (stocked g.stock).ports
  claimed_ports = ap (λ (t : Stocked). t.ports) goes ∙ (out_stays (number_of c) 0 (map (gives_to a c) (ports_of c)) s).ports

-- whoever gets the headers sees what they carry in each world
pub carried_there : {C : Type 0} (progress : C → Progress) (g : Entries C) (c : Component) (places : List (Option BufferHeader)) → HasFronts c places (stocked g.stock) → AlwaysBare (kept progress g) (λ w. carried w.headers (work_of (seen w.headers) c).headers ≡ carried_from 0 places)
carried_there progress g c places F = λ w S.
    ap (λ (t : Seen). carried w.headers (work_of t c).headers) (seen_of progress g w S) ∙ work_carried c (stocked g.stock) places F w.headers (stands_for (stocked g.stock) (kept progress g) w (stock_of progress g) S)
