-- A header comes from a link's output to its input, and is unmade there, once all components are Invalid.
use Rattle.std.proofs.Common.{◌≡◌, ◌≢◌, if◌then◌else◌, ℕ, ◌<◌, ◌≤◌, Bool, true, false, not, ◌&&◌, ◌||◌, List, [], ◌∷◌, length, length-append, slice_get, Option, Some, None, All, MatchOption, Result, Ok, Err, refl, sym, ◌∙◌, ap, subst, arith}
use Rattle.omx_types.specs.declared.handle.Handle.{Handle}
use Rattle.omx_types.specs.declared.error.OmxError.{OmxError}
use Rattle.il_machine.specs.declared.answer.Acted.{Acted}
use Rattle.il_machine.specs.declared.answer.Acted.TheVariants as acted
use Rattle.il_machine.specs.declared.answer.Why.{Why}
use Rattle.il_machine.specs.declared.answer.Why.TheVariants as why
use Rattle.il_machine.specs.declared.header.Spot.{Spot}
use Rattle.il_machine.specs.declared.header.Spot.TheVariants as spots
use Rattle.il_machine.specs.declared.port.Link.{Link}
use Rattle.il_machine.specs.declared.port.Port.{Port}
use Rattle.il_machine.specs.declared.port.PortKey.{PortKey}
use Rattle.il_machine.specs.Answers.{Acts, plain}
use Rattle.il_machine.specs.Due.{ClosesTo}
use Rattle.il_machine.specs.Flow.{HandBack, Release, back_idle, front_unmade, handed_back, in_port, release_idle, returned, supplied_spot}
use Rattle.il_machine.specs.Headers.{cleared, put, same_key, seen, unchanged, without}
use Rattle.il_machine.specs.Lists.{holds_at, is_empty}
use Rattle.il_machine.specs.Look.{look}
use Rattle.il_machine.specs.Ports.{id_of, is_disabling, is_input_port, is_supplied_by, is_supplier, leaving, returning}
use Rattle.il_machine.specs.Sound.{Sound}
use Rattle.il_machine.specs.States.{is_executing, is_invalid}
use Rattle.il_machine.specs.World.{Component, HeaderRecord, World, place_of, port_of}
use Rattle.machine_laws.proofs.Every.{at_place}
use Rattle.machine_laws.proofs.Flowing.{sound_released, sound_returned}
use Rattle.machine_laws.proofs.Keys.{key_is}
use Rattle.machine_laws.proofs.Finding.{either}
use Rattle.machine_laws.proofs.Listed.{IsIn, both_in, done_in, first_in, todo_in}
use Rattle.machine_laws.proofs.Parts.{parts_of}
use Rattle.play_build_laws.proofs.Places.{get_there, resolved}
use Rattle.play_build_laws.specs.Dismantling.{AreLinks}
use Rattle.play_build_laws.proofs.Resting.{calm_closes}
use Rattle.play_build_laws.specs.Halting.{HasTunnelEnd, IsAnswered, IsBrought, IsCleared, IsLinked, IsStopped, KeepsFiles, headers_at}
use Rattle.play_build_laws.proofs.Linked.{KeepsSeat, at_end, each_same, files_kept, linked_kept, port_of_end, seat_same}
use Rattle.play_build_laws.proofs.Counting.{put_elsewhere, put_fewer, unmade_fewer, unmade_no_more}

-- what a port's act comes to, where the component has the port
on_port : (o : Option Port) (N : Type 0) (P : Port → Type 0) (p : Port) → o ≡ Some p → MatchOption o N P → P p
on_port o N P p e h = rw e at h

any_way : (a b c : Bool) → (a || b || true || c) ≡ true
any_way true b c = refl
any_way false true c = refl
any_way false false c = refl

any_of_two : (a b : Bool) → (a || true || b) ≡ true
any_of_two true b = refl
any_of_two false b = refl

-- ---- a world in which all components are stopped

module _ (end : Bool → ℕ → PortKey) (links cleared_ : ℕ) (w : World) (C : IsCleared end links cleared_ w) where
  -- what an act with headers alone leaves
  module _ (v : World) (same : v.components ≡ w.components) (S : Sound v) where
    still_linked : IsLinked end links v
    still_linked = linked_kept end links w v C.linked (each_same KeepsSeat seat_same w v same) S (subst (All (λ (a : Component). a.work ≡ None)) (sym same) C.linked.works) (subst (All (λ (a : Component). a.client_out ≡ false)) (sym same) C.linked.clients)

    pub still_cleared : ((side : Bool) (l : ℕ) → l < cleared_ → headers_at (end side l) (look v) ≤ headers_at (end side l) (look w)) → IsCleared end links cleared_ v
    still_cleared h = record {
      linked = still_linked;
      stopped = subst (All IsStopped) (sym same) C.stopped;
      none = λ side l b. let a = C.none side l b in let m = h side l b in omega (arith, a, m);
    }

    pub still_files : KeepsFiles w v
    still_files = files_kept w v (each_same KeepsSeat seat_same w v same)

    -- the close-out changes nothing
    pub still_closes : (u : World) → ClosesTo v u → u ≡ v
    still_closes u K = calm_closes v u (λ i a e. (at_place IsStopped v.components i a (subst (All IsStopped) (sym same) C.stopped) e).calm) K

-- ---- why not

apart_keys : (a b : PortKey) → a ≢ b → same_key a b ≡ false
apart_keys a b n = either (same_key a b) (λ t. absurd (n (key_is a b t))) (λ f. f)

back_goes : (s r e d t : Bool) (f g h : Why) → s ≡ false → r ≡ true → (d && t) ≡ false → (if s then Some f else (if not r && not e then Some g else (if d && (not r || t) then Some h else None))) ≡ None
back_goes s r e d t f g h a b c = rw (a, b, c) refl

back_stays : (s r e d t : Bool) (f g h : Why) → s ≡ false → r ≡ true → d ≡ true → t ≡ true → (if s then Some f else (if not r && not e then Some g else (if d && (not r || t) then Some h else None))) ≡ Some h
back_stays s r e d t f g h a b c k = rw (a, b, c, k) refl

release_goes : (s l e : Bool) (f g h : Why) → s ≡ true → l ≡ true → (if not s then Some f else (if not l then Some g else (if e then Some h else None))) ≡ (if e then Some h else None)
release_goes s l e f g h a b = rw (a, b) refl

acts_did : (o : Option Why) (result : Result Acted OmxError) (w e v : World) → o ≡ None → Acts o result w e v → (result ≡ Ok acted.Did) × ClosesTo e v
acts_did None result w e v n A = A
acts_did (Some x) result w e v n A = absurd cc

acts_idle : (o : Option Why) (x : Why) (result : Result Acted OmxError) (w e v : World) → o ≡ Some x → Acts o result w e v → (result ≡ Ok (acted.Idle x)) × (v ≡ w)
acts_idle None x result w e v n A = absurd cc
acts_idle (Some y) x result w e v n A = let s : y ≡ x = cc in (A.0 ∙ ap (λ (z : Why). Ok (acted.Idle z)) s, A.1)

-- ---- a header comes to the input

module _ (end : Bool → ℕ → PortKey) (links l : ℕ) (w : World) (A : AreLinks end links) (C : IsCleared end links l w) (b : l < links) (v : World) (h : Handle) (result : Result Acted OmxError) (N : place_of h w.components ≡ Some (end false l).component) where
  abbrev key : PortKey
  key = end false l

  giver : (a : Component) × (slice_get w.components key.component ≡ Some a)
  giver = get_there w.components key.component (C.linked.has.inside false l b)

  abbrev a : Component
  a = giver.0

  abbrev ended : HasTunnelEnd end false l a
  ended = (port_of_end end links w C.linked false l b a giver.1).0

  abbrev q : Port
  q = record { key = key; setting = ended.joint.setting; state = ended.joint.state }

  there : port_of a key.port ≡ Some q
  there = (port_of_end end links w C.linked false l b a giver.1).1

  abbrev link : Link
  link = ended.joint.link

  peer_is : link.peer ≡ end true l
  peer_is = ended.joint.peer

  no_supplier : is_supplier q ≡ false
  no_supplier =
      let input : is_supplied_by false link ≡ false = rw ended.supplier refl in
      ap (λ o. holds_at o (is_supplied_by (is_input_port q))) ended.joint.joined ∙ (ap (λ (s : Bool). is_supplied_by s link) ended.joint.direction ∙ input)

  returns : returning a q ≡ true
  returns =
      let i : is_invalid a.state ≡ true = (at_place IsStopped w.components key.component a C.stopped giver.1).invalid in
      rw i (any_way q.state.flushing (is_disabling q.state.mode) _)

  abbrev back : World
  back = returned link.peer (is_input_port q) ((seen w.headers).done key) ((seen w.headers).todo key) w

  acts_so : HandBack w h key.port result v → Acts (back_idle (look w) a q) result w back v
  acts_so T =
      let R = resolved plain w h result v (λ i c. MatchOption (port_of c key.port) ((result ≡ Err (plain _)) × (v ≡ w)) (λ p. Acts (back_idle (look w) c p) result w (handed_back i c p p.state.link w) v)) key.component a N giver.1 T in
      let S = on_port (port_of a key.port) _ (λ p. Acts (back_idle (look w) a p) result w (handed_back key.component a p p.state.link w) v) q there R in
      subst (λ o. Acts (back_idle (look w) a q) result w (handed_back key.component a q o w) v) ended.joint.joined S

  back_sound : Sound back
  back_sound = sound_returned w key.component a key.port q link C.linked.sound giver.1 there ended.joint.joined

  pub record IsBack : Type 0 where
    pub cleared_ : IsCleared end links l v
    pub files : KeepsFiles w v
    pub answered : IsAnswered key w v result

  -- the header of the number went to the input
  went : (n : ℕ) (spot : Spot) (change : HeaderRecord → HeaderRecord) → ((x : HeaderRecord) → (change x).state ≡ x.state) → IsIn key w.headers n → back ≡ record w { headers = put link.peer spot n change w.headers }
      → (result ≡ Ok acted.Did) × ClosesTo back v → IsBack
  went n spot change keeps I is D =
      let r = I.header in
      let once = (parts_of w C.linked.sound).once in
      let e : World = record w { headers = put link.peer spot n change w.headers } in
      let S : Sound e = subst Sound is back_sound in
      let v_is : v ≡ e = still_closes end links l w C e refl S v (subst (λ (y : World). ClosesTo y v) is D.1) in
      let out = (at_end end links w C.linked n r I.found).queue in
      let apart : same_key link.peer key ≡ false = apart_keys link.peer key (λ k. let s = (A.one true false l l b b (sym peer_is ∙ k)).0 in cc) in
      let other : (side : Bool) (m : ℕ) → m < l → same_key link.peer (end side m) ≡ false =
      λ side m c. apart_keys link.peer (end side m) (λ k. let s = (A.one true side l m b (omega (arith, b, c)) (sym peer_is ∙ k)).1 in omega (arith, c, s)) in
      record {
        cleared_ = subst (IsCleared end links l) (sym v_is) (still_cleared end links l w C e refl S (λ side m c. put_elsewhere key link.peer spot change keeps w n r once I.found (end side m) (other side m c)));
        files = subst (KeepsFiles w) (sym v_is) (still_files end links l w C e refl S);
        answered = rw (D.0, v_is) (put_fewer key link.peer spot change keeps w n r once I.found apart I.owner out);
      }

  by_lists : (done todo : List ℕ) → (seen w.headers).done key ≡ done → (seen w.headers).todo key ≡ todo → HandBack w h key.port result v → IsBack
  by_lists (n ∷ ns) todo d t T =
      let go = back_goes (is_supplier q) (returning a q) (is_executing a.state) (is_empty ((seen w.headers).done key)) (is_empty ((seen w.headers).todo key)) why.IsSupplier (why.NotRunning (id_of a q)) why.NoHeader no_supplier returns (rw d refl) in
      let D = acts_did (back_idle (look w) a q) result w back v go (acts_so T) in
      went n spots.TodoBack unchanged (λ x. refl) (first_in key w.headers ((seen w.headers).done key) ns n (done_in key w.headers (parts_of w C.linked.sound).once) d) (rw d refl) D
  by_lists [] (n ∷ ns) d t T =
      let go = back_goes (is_supplier q) (returning a q) (is_executing a.state) (is_empty ((seen w.headers).done key)) (is_empty ((seen w.headers).todo key)) why.IsSupplier (why.NotRunning (id_of a q)) why.NoHeader no_supplier returns (rw (d, t) refl) in
      let D = acts_did (back_idle (look w) a q) result w back v go (acts_so T) in
      went n (supplied_spot (not (is_input_port q))) cleared (λ x. refl) (first_in key w.headers ((seen w.headers).todo key) ns n (todo_in key w.headers (parts_of w C.linked.sound).once) t) (rw (d, t) refl) D
  by_lists [] [] d t T =
      let stay = back_stays (is_supplier q) (returning a q) (is_executing a.state) (is_empty ((seen w.headers).done key)) (is_empty ((seen w.headers).todo key)) why.IsSupplier (why.NotRunning (id_of a q)) why.NoHeader no_supplier returns (rw d refl) (rw t refl) in
      let D = acts_idle (back_idle (look w) a q) why.NoHeader result w back v stay (acts_so T) in
      let none : headers_at key (look w) ≡ 0 = rw (d, t) refl in
      record {
        cleared_ = subst (IsCleared end links l) (sym D.1) C;
        files = subst (KeepsFiles w) (sym D.1) (files_kept w w (each_same KeepsSeat seat_same w w refl));
        answered = rw (D.0, D.1) none;
      }

  pub brings : HandBack w h key.port result v → IsBack
  brings T = by_lists ((seen w.headers).done key) ((seen w.headers).todo key) refl refl T

-- ---- and is unmade there

module _ (end : Bool → ℕ → PortKey) (links l : ℕ) (w : World) (B : IsBrought end links l w) (b : l < links) (v : World) (h : Handle) (result : Result Acted OmxError) (N : place_of h w.components ≡ Some (end true l).component) where
  abbrev input : PortKey
  input = end true l

  abbrev C : IsCleared end links l w
  C = B.cleared

  taker : (d : Component) × (slice_get w.components input.component ≡ Some d)
  taker = get_there w.components input.component (C.linked.has.inside true l b)

  abbrev d : Component
  d = taker.0

  abbrev end_in : HasTunnelEnd end true l d
  end_in = (port_of_end end links w C.linked true l b d taker.1).0

  abbrev p : Port
  p = record { key = input; setting = end_in.joint.setting; state = end_in.joint.state }

  port_there : port_of d input.port ≡ Some p
  port_there = (port_of_end end links w C.linked true l b d taker.1).1

  supplies : is_supplier p ≡ true
  supplies =
      let k : is_supplied_by true end_in.joint.link ≡ true = rw end_in.supplier refl in
      ap (λ o. holds_at o (is_supplied_by (is_input_port p))) end_in.joint.joined ∙ (ap (λ (s : Bool). is_supplied_by s end_in.joint.link) end_in.joint.direction ∙ k)

  leaves : leaving d p ≡ true
  leaves =
      let i : is_invalid d.state ≡ true = (at_place IsStopped w.components input.component d C.stopped taker.1).invalid in
      rw i (any_of_two (is_disabling p.state.mode) _)

  abbrev listed : List ℕ
  listed = in_port (seen w.headers) p

  acts_then : Release w h input.port result v → Acts (release_idle (look w) d p) result w (front_unmade listed w) v
  acts_then T =
      let R = resolved plain w h result v (λ i c. MatchOption (port_of c input.port) ((result ≡ Err (plain _)) × (v ≡ w)) (λ x. Acts (release_idle (look w) c x) result w (front_unmade (in_port (seen w.headers) x) w) v)) input.component d N taker.1 T in
      on_port (port_of d input.port) _ (λ x. Acts (release_idle (look w) d x) result w (front_unmade (in_port (seen w.headers) x) w) v) p port_there R

  goes_if : release_idle (look w) d p ≡ (if is_empty listed then Some why.NoHeader else None)
  goes_if = release_goes (is_supplier p) (leaving d p) (is_empty listed) why.NotSupplier why.NotLeaving why.NoHeader supplies leaves

  pub record IsReleased : Type 0 where
    pub brought : IsBrought end links l v
    pub files : KeepsFiles w v
    pub answered : IsAnswered input w v result

  unmade_by : (ns : List ℕ) → listed ≡ ns → Release w h input.port result v → IsReleased
  unmade_by (n ∷ ns) k T =
      let D = acts_did (release_idle (look w) d p) result w (front_unmade listed w) v (goes_if ∙ rw k refl) (acts_then T) in
      let once = (parts_of w C.linked.sound).once in
      let I = first_in input w.headers listed ns n (both_in input w.headers ((seen w.headers).todo input) ((seen w.headers).done input) (todo_in input w.headers once) (done_in input w.headers once)) k in
      let r = I.header in
      let e : World = record w { headers = without n w.headers } in
      let is : front_unmade listed w ≡ e = ap (λ (ms : List ℕ). front_unmade ms w) k in
      let S : Sound e = subst Sound is (sound_released w p C.linked.sound) in
      let v_is : v ≡ e = still_closes end links l w C e refl S v (subst (λ (y : World). ClosesTo y v) is D.1) in
      let out = (at_end end links w C.linked n r I.found).queue in
      let fewer = unmade_no_more input w n r I.found in
      record {
        brought = subst (IsBrought end links l) (sym v_is) (record {
          cleared = still_cleared end links l w C e refl S (λ side m c. fewer (end side m));
          none = let m = fewer (end false l) in let z = B.none in omega (arith, m, z);
        });
        files = subst (KeepsFiles w) (sym v_is) (still_files end links l w C e refl S);
        answered = rw (D.0, v_is) (unmade_fewer input w n r I.found I.owner out);
      }
  unmade_by [] k T =
      let D = acts_idle (release_idle (look w) d p) why.NoHeader result w (front_unmade listed w) v (goes_if ∙ rw k refl) (acts_then T) in
      let both : length listed ≡ headers_at input (look w) = length-append ((seen w.headers).todo input) ((seen w.headers).done input) in
      let none : headers_at input (look w) ≡ 0 = sym both ∙ ap length k in
      record {
        brought = subst (IsBrought end links l) (sym D.1) B;
        files = subst (KeepsFiles w) (sym D.1) (files_kept w w (each_same KeepsSeat seat_same w w refl));
        answered = rw (D.0, D.1) none;
      }

  pub releases : Release w h input.port result v → IsReleased
  releases T = unmade_by listed refl T
