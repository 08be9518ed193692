-- A work that is out of a component of a play: its headers as they were claimed, and the links that they belong to.
use Rattle.std.proofs.Common.{◌≡◌, ◌≢◌, inl, inr, ℕ, zero, suc, ◌<◌, ◌≤◌, Bool, true, false, nat_lt, List, [], ◌∷◌, ◌++◌, length, map, get_or, slice_get, Option, Some, option_map, refl, sym, ◌∙◌, ap, subst, arith}
use Rattle.std.proofs.lemmas.Option.{slice_get-map, get_or_from_slice_get}
use Rattle.std.proofs.lemmas.List.{take-append-drop, length-take-le, length-map}
use Rattle.omx_types.specs.declared.format.Format.{Format}
use Rattle.omx_types.specs.declared.format.Format.TheVariants.{Auto}
use Rattle.omx_types.specs.Formats.{frame_bytes_of}
use Rattle.il_machine.specs.declared.header.Owner.{Owner}
use Rattle.il_machine.specs.declared.header.Owner.TheVariants as owners
use Rattle.il_machine.specs.declared.port.PortKey.{PortKey}
use Rattle.il_machine.specs.declared.port.Port.{Port}
use Rattle.il_machine.specs.declared.port.PortSetting.{PortSetting}
use Rattle.il_machine.specs.Kinds.{inputs_of, is_input}
use Rattle.il_machine.specs.Lists.{holds_at}
use Rattle.il_machine.specs.Settings.{formats_of, same_bool}
use Rattle.il_machine.specs.World.{Component, HeaderRecord, Picked, Work, World, number_of, port_of}
use Rattle.il_machine.specs.Headers.{seen, find_header, is_for, is_work_of, state_of}
use Rattle.il_machine.specs.Ports.{is_input_port}
use Rattle.il_machine.specs.Census.{times, work_numbers}
use Rattle.il_machine.specs.Claims.{terms_in}
use Rattle.il_machine.specs.Stepping.{format_at}
use Rattle.il_machine.specs.Sound.{IsOwnedSo, IsPickedFor, ArePicked, is_in_work_of}
use Rattle.machine_laws.proofs.Every.{at_place}
use Rattle.machine_laws.proofs.Headers.{work_is}
use Rattle.machine_laws.proofs.Listed.{header_there, times_cons, times_self, weight_below}
use Rattle.machine_laws.proofs.Lookups.{port_parts}
use Rattle.machine_laws.proofs.Parts.{parts_of, ports_in_list}
use Rattle.machine_laws.proofs.Tunnels.{definition_parts}
use Rattle.machine_laws.proofs.Works.{picked_worked}
use Rattle.play_model.specs.Network.{LinkState, Filled}
use Rattle.play_model.specs.Moves.{IsFront, CanClaim}
use Rattle.play_model.specs.Play.{Play, IsRunning}
use Rattle.play_model.specs.Acts.{Act, CanAct}
use Rattle.play_world_laws.specs.View.{filled, filled_by, picked_at, worked_at}
use Rattle.play_world_laws.proofs.Counts.{owner_is, to_output}
use Rattle.play_world_laws.specs.Cast.{Cast, links_of, script_place, output_at, input_at, supplier_of}
use Rattle.play_world_laws.specs.Wiring.{work_in}
use Rattle.play_world_laws.specs.Worlds.{IsBeforeRest, IsWork, IsWholeHeader}
use Rattle.play_world_laws.proofs.Wanted.{IsLinkAt, end_at, link_below, end_place}
use Rattle.play_step_laws.proofs.Claimable.{own_works, step_can}
use Rattle.play_world_laws.proofs.Picks.{picked_one, IsPick, pick_key, key_is_end}
use Rattle.play_step_laws.proofs.Picks.{link_pick}
use Rattle.play_world_laws.proofs.Worked.{IsHeaderOf}
use Rattle.play_step_laws.proofs.Poised.{IsPoised}

-- ---- numbers that are in a list once

number_there : (ns : List ℕ) (j n : ℕ) → slice_get ns j ≡ Some n → 1 ≤ times n ns
number_there [] j n e = absurd cc
number_there (m ∷ ns) zero n e = let s : m ≡ n = cc in subst (λ (k : ℕ). 1 ≤ times n (k ∷ ns)) (sym s) (omega (arith, times_self n ns))
number_there (m ∷ ns) (suc j) n e = let i = number_there ns j n e in omega (arith, times_cons n m ns)

number_twice : (ns : List ℕ) (i j n : ℕ) → i < j → slice_get ns i ≡ Some n → slice_get ns j ≡ Some n → 2 ≤ times n ns
number_twice [] i j n l e f = absurd cc
number_twice (m ∷ ns) i zero n l e f = absurd (omega arith)
number_twice (m ∷ ns) zero (suc j) n l e f = let s : m ≡ n = cc in let i = number_there ns j n f in subst (λ (k : ℕ). 2 ≤ times n (k ∷ ns)) (sym s) (omega (arith, times_self n ns))
number_twice (m ∷ ns) (suc i) (suc j) n l e f = let r = number_twice ns i j n (omega arith) e f in omega (arith, times_cons n m ns)

-- ---- a header of the work

same_direction : (b c : Bool) → same_bool b c ≡ true → b ≡ c
same_direction true c h = sym h
same_direction false true h = absurd cc
same_direction false false h = refl

module _ (x : Cast) (p : Play) (w : World) (c : ℕ) (a : Component) (U : IsPoised x p w c a) (work : Work) (f : a.work ≡ Some work) (J : IsWork x p c a work) where
  abbrev its : IsWork x p c a work
  its = J

  abbrev xs : List Picked
  xs = work.headers

  pub before_end : IsBeforeRest p c
  before_end = let t = its.phase in ((λ s. absurd (omega arith)), omega arith)

  pub is_running : IsRunning p c
  is_running = inl (its.phase, its.stage)

  pub work_rises : ArePicked 0 xs (length a.ports)
  work_rises = ((parts_of w U.sound).lawful (script_place x c) a work U.there f).rising

  -- the header that is picked is there
  pub header_at : (j : ℕ) (y : Picked) → slice_get xs j ≡ Some y → (r : HeaderRecord) × (find_header y.number w.headers ≡ Some r) × (is_for (pick_key x c y) r.state ≡ true)
  header_at j y g =
      let P = parts_of w U.sound in
      let k = at_place (IsPickedFor (seen w.headers) (number_of a)) xs j y ((P.works).made (script_place x c) a work U.there f) g in
      let r = header_there (find_header y.number w.headers) (λ s. is_for (record { component = number_of a; port = y.port }) s ≡ true) k in
      (r.0, r.1, ap (λ (n : ℕ). is_for (record { component = n; port = y.port }) (r.0).state) (sym U.number) ∙ r.2)

  -- a header is of one link
  one_link : (input : Bool) (l m : ℕ) (r : HeaderRecord) → IsLinkAt input (x.layout).network c l → m < links_of x → (n : ℕ) → find_header n w.headers ≡ Some r → is_for (end_at input x l) r.state ≡ true → is_for (output_at x m) r.state ≡ true → l ≡ m
  one_link input l m r I k n h s t =
      let P = parts_of w U.sound in
      let d = link_below input (x.layout).network c l I in
      let T = U.tunnel input l I in
      let S = P.tied.placed n r h in
      let o : is_for (output_at x l) r.state ≡ true = at_output input s in
      elim (owner_is (ports_in_list w.components) w.headers (output_at x l) (input_at x l) (supplier_of x l) P.tied T r.state (output_at x m) S o t) [
        | inl q ↦ (U.cast).outputs l m d k (sym q)
        | inr q ↦ absurd ((U.cast).beside m l k d q)
      ]
    where
      at_output : (input : Bool) → is_for (end_at input x l) r.state ≡ true → is_for (output_at x l) r.state ≡ true
      at_output false s = s
      at_output true s = let P = parts_of w U.sound in to_output (ports_in_list w.components) w.headers (output_at x l) (input_at x l) (supplier_of x l) P.tied (U.tunnel input l I) r.state (P.tied.placed n r h) s

  pub header_of : (j l : ℕ) (y : Picked) (input : Bool) → IsPick x p c xs j y l input → (r : HeaderRecord) × IsHeaderOf x w c (number_of a) y l r
  header_of j l y input P =
      let k = header_at j y P.there in
      let r : HeaderRecord = k.0 in
      let S = parts_of w U.sound in
      let n = picked_worked w.components w.headers S.works (script_place x c) a work U.there f j y P.there in
      let m : is_work_of (number_of a) r.state.owner ≡ true = rw k.1 at n in
      let o = work_is (number_of a) r.state.owner m in
      let O : IsOwnedSo r.state (owners.Work (number_of a)) = subst (λ (z : Owner). IsOwnedSo r.state z) o (S.tied.placed y.number r k.1).owner in
      let H = U.headers y.number r k.1 in
      let z : is_for (end_at input x l) r.state ≡ true = ap (λ (key : PortKey). is_for key r.state) (sym (key_is_end x p U.cast c xs j l y input P)) ∙ k.2 in
      let same : l ≡ H.link = one_link input l H.link r P.of_link H.below y.number k.1 z (H.whole).for_link in (
        r,
        record {
          found = k.1;
          owner = o;
          out = O.0;
          made = k.2;
          whole = subst (λ (t : ℕ). IsWholeHeader x t r) (sym same) H.whole;
        },
      )

  -- two headers of the work have two numbers
  pub numbers_differ : (i j : ℕ) (u y : Picked) → i < j → slice_get xs i ≡ Some u → slice_get xs j ≡ Some y → u.number ≢ y.number
  numbers_differ i j u y l g h s =
      let P = parts_of w U.sound in
      let n : ℕ = y.number in
      let at : slice_get (map (λ (z : Picked). z.number) xs) i ≡ Some n = slice_get-map (λ (z : Picked). z.number) xs i ∙ (ap (option_map (λ (z : Picked). z.number)) g ∙ ap (λ (k : ℕ). Some k) s) in
      let too : slice_get (map (λ (z : Picked). z.number) xs) j ≡ Some n = slice_get-map (λ (z : Picked). z.number) xs j ∙ ap (option_map (λ (z : Picked). z.number)) h in
      let two = number_twice (map (λ (z : Picked). z.number) xs) i j n l at too in
      let once = (P.works).claimed (script_place x c) a U.there n in
      let is : times n (work_numbers a.work) ≡ times n (map (λ (z : Picked). z.number) xs) = ap (λ (o : Option Work). times n (work_numbers o)) f in
      let few = weight_below (holds_at (option_map state_of (find_header n w.headers)) (is_in_work_of (number_of a))) in
      omega arith

  -- ---- what the work has of a link

  pub own_picked : (j l : ℕ) (y : Picked) (input : Bool) → IsPick x p c xs j y l input → work_in w.components (end_at input x l) ≡ y.number ∷ []
  own_picked j l y input P =
      own_works x p w c a U (end_at input x l) (end_place input x c l P.of_link)
      ∙ (ap (λ (o : Option Work). worked_at o (end_at input x l).port) f ∙ (ap (λ (z : ℕ). picked_at z xs) (sym P.port) ∙ picked_one 0 (length a.ports) xs j y work_rises P.there))

  pub front_held : (j l : ℕ) (y : Picked) (r : HeaderRecord) → IsPick x p c xs j y l true → find_header y.number w.headers ≡ Some r
      → ((p.flow).link l).held ≡ filled_by (x.unit l) r.load ∷ map (filled (x.unit l) w.headers) ((seen w.headers).todo (input_at x l))
  front_held j l y r P g =
      ap (λ (z : LinkState). z.held) (U.viewed l (link_below true (x.layout).network c l P.of_link))
      ∙ (ap (λ (ns : List ℕ). map (filled (x.unit l) w.headers) (ns ++ (seen w.headers).todo (input_at x l))) (own_picked j l y true P)
      ∙ rw g refl)

  pub some_ready : (j l : ℕ) (y : Picked) → IsPick x p c xs j y l false → 0 < ((p.flow).link l).ready
  some_ready j l y P =
      let v = ap (λ (z : LinkState). z.ready) (U.viewed l (link_below false (x.layout).network c l P.of_link)) in
      let o : length (work_in w.components (output_at x l)) ≡ 1 = ap length (own_picked j l y false P) in
      omega arith

  -- ---- the model can make its step

  pub out_can : CanClaim (x.layout).network p.flow c
  out_can = record {
    inside = U.below;
    going = its.going;
    inputs = λ l O.
        let k = link_pick x p w c a U before_end xs its.ports true l O.input O.open_ in
        let h = header_at k.0 k.1 (k.2).there in
        subst (λ (q : List Filled). IsFront (λ z. Unit {0}) q) (sym (front_held k.0 l k.1 h.0 k.2 h.1)) tt;
    outputs = λ l O. let k = link_pick x p w c a U before_end xs its.ports false l O refl in some_ready k.0 l k.1 k.2;
  }

  pub out_steps : (n : ℕ) × (last : Bool) × CanAct x.layout p (Act.Step c n last)
  out_steps = step_can x p w c a U is_running its.phase out_can

  -- ---- its terms

  pub inputs_many : length (terms_in a work).inputs ≡ inputs_of a.settings.kind
  inputs_many =
      let S = (parts_of w U.sound).components (script_place x c) a U.there in
      let n = length-map a.settings.ports (λ (z : PortSetting). z.definition.format) in
      let m = (S.whole).ports in
      length-take-le (inputs_of a.settings.kind) (formats_of a.settings.ports) (omega arith)

  pub format_is : (i : ℕ) (q : Port) → port_of a i ≡ Some q → format_at (terms_in a work) i ≡ q.setting.definition.format
  format_is i q g =
      let fs : List Format = formats_of a.settings.ports in
      let s : slice_get fs i ≡ Some q.setting.definition.format = slice_get-map (λ (z : PortSetting). z.definition.format) a.settings.ports i ∙ ap (option_map (λ (z : PortSetting). z.definition.format)) (port_parts a i q g).setting in
      ap (λ (l : List Format). get_or l i Auto) (take-append-drop (inputs_of a.settings.kind) fs) ∙ get_or_from_slice_get fs i q.setting.definition.format Auto s

  pub direction_is : (i : ℕ) (q : Port) → port_of a i ≡ Some q → is_input_port q ≡ nat_lt i (inputs_of a.settings.kind)
  direction_is i q g =
      let S = (parts_of w U.sound).components (script_place x c) a U.there in
      let L = S.settings i q.setting (port_parts a i q g).setting in
      same_direction q.setting.definition.input (is_input a.settings.kind i) (definition_parts (is_input a.settings.kind i) q.setting.definition L.0).direction

  -- the bytes of a frame, and whether it is an input
  pub unit_at : (j l : ℕ) (y : Picked) (input : Bool) → IsPick x p c xs j y l input → frame_bytes_of (format_at (terms_in a work) y.port) ≡ x.unit l
  unit_at j l y input P =
      let H = U.its input l P.of_link in
      let there : port_of a y.port ≡ Some H.port = ap (port_of a) P.port ∙ H.there in
      ap frame_bytes_of (format_is y.port H.port there) ∙ (H.end).unit

  pub side_at : (j l : ℕ) (y : Picked) (input : Bool) → IsPick x p c xs j y l input → nat_lt y.port (length (terms_in a work).inputs) ≡ input
  side_at j l y input P =
      let H = U.its input l P.of_link in
      let there : port_of a y.port ≡ Some H.port = ap (port_of a) P.port ∙ H.there in
      ap (λ (n : ℕ). nat_lt y.port n) inputs_many ∙ (sym (direction_is y.port H.port there) ∙ (H.end).direction)
