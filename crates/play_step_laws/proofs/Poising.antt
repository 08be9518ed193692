-- A component of a play none of whose ports is held or being changed is poised.
use Rattle.std.proofs.Common.{◌≡◌, ◌⊎◌, inl, inr, ℕ, zero, suc, ◌*◌, ◌<◌, ◌≤◌, Bool, true, false, not, ◌&&◌, ◌||◌, nat_le, if◌then◌else◌, List, [], ◌∷◌, ◌++◌, length, length-append, map, slice_get, sum_by, Option, Some, None, refl, sym, ◌∙◌, ap, subst, le-leb, leb-true, leb-false, arith}
use Rattle.std.specs.List.{list_any}
use Rattle.std.proofs.lemmas.List.Sums.{count_by-le-length}
use Rattle.std.proofs.Math.Nat.{zero-mul}
use Rattle.std.proofs.lemmas.Option.{get_or_from_slice_get, slice_get_within}
use Rattle.omx_types.specs.Formats.{frame_bytes_of, is_auto}
use Rattle.omx_types.specs.declared.command.Note.{Note}
use Rattle.omx_types.specs.declared.kind.Kind.{Kind}
use Rattle.omx_types.specs.declared.kind.Kind.TheVariants as kinds
use Rattle.part_api.specs.declared.attached.Attached.{Attached}
use Rattle.part_api.specs.declared.attached.Attached.TheVariants.{From, To}
use Rattle.il_machine.specs.declared.port.Link.{Link}
use Rattle.il_machine.specs.declared.port.Mode.TheVariants.{Steady}
use Rattle.il_machine.specs.declared.port.Port.{Port}
use Rattle.il_machine.specs.declared.port.PortKey.{PortKey}
use Rattle.il_machine.specs.declared.port.PortSetting.{PortSetting}
use Rattle.il_machine.specs.declared.port.PortState.{PortState}
use Rattle.il_machine.specs.Claims.{held_test, is_unannounced, must_announce}
use Rattle.il_machine.specs.Due.{each_port}
use Rattle.il_machine.specs.Files.{file_port_format}
use Rattle.il_machine.specs.Finishing.{end_note}
use Rattle.il_machine.specs.Kinds.{is_input, is_late, is_source, ports_in}
use Rattle.il_machine.specs.Lists.{first_of_these}
use Rattle.il_machine.specs.Parts.{file_format, frames_of}
use Rattle.il_machine.specs.Ports.{is_open, is_steady}
use Rattle.il_machine.specs.Queued.{notes_given}
use Rattle.il_machine.specs.Room.{events_in, is_event, port_reserve, used}
use Rattle.il_machine.specs.Settings.{default_setting, same_format}
use Rattle.il_machine.specs.Sound.{may_have}
use Rattle.il_machine.specs.World.{Component, World, number_of, port_of, ports_of}
use Rattle.machine_laws.proofs.Accepting.{not_either}
use Rattle.machine_laws.proofs.Every.{all_pass}
use Rattle.machine_laws.proofs.Finding.{either}
use Rattle.machine_laws.proofs.Fitting.{source_format}
use Rattle.machine_laws.proofs.Lookups.{port_parts}
use Rattle.machine_laws.proofs.Parts.{parts_of, ports_in_list}
use Rattle.stock_laws.proofs.Leaving.{and_false_right}
use Rattle.play_model.specs.Network.{IsOutput}
use Rattle.play_model.specs.Changes.{Change, IsHalfChanged, IsInOrder, port_at}
use Rattle.play_model.specs.Play.{HasPorts, IsRunning, Play, component_at}
use Rattle.play_world_laws.specs.Tunnel.{IsTunnel}
use Rattle.play_world_laws.specs.Cast.{Cast, components_of, input_at, links_of, output_at, script_place, supplier_of, taker_of}
use Rattle.play_world_laws.specs.Telling.{out_of, state_note}
use Rattle.play_world_laws.specs.Wiring.{IsEnd, joined_state, link_to}
use Rattle.play_world_laws.specs.Worlds.{ends_untold}
use Rattle.play_world_laws.proofs.Claimable.{at_rest_none, map_first}
use Rattle.play_world_laws.proofs.Lengths.{source_early}
use Rattle.play_world_laws.proofs.Lists.{sum_none}
use Rattle.play_world_laws.proofs.Rooms.{end_notes, port_of_state, state_notes, used_at_rest}
use Rattle.play_world_laws.proofs.Wanted.{HasPort, IsLinkAt, IsPlayPort, end_at}
use Rattle.play_world_laws.specs.Changing.{commands_of_port, is_enabled_at, is_held_at, is_joined_at, is_set, is_set_at, mode_at, notes_of_port, state_by}
use Rattle.play_world_laws.specs.PlayWorlds.{IsActorAt, IsEndAt, IsPlayWorld, PlayCast, announced_note, commands_of_end, end_of_link, notes_of_end, port_commands, port_notes, port_number, settings_notes, settings_of_end}
use Rattle.machine_laws.proofs.Fitting.{format_itself}
use Rattle.play_world_laws.proofs.Claiming.{late_reads}
use Rattle.play_world_laws.proofs.ChangeCounts.{tunnel}
use Rattle.play_world_laws.proofs.ChangeEnds.{actor_there, end_inside, end_there, ends_apart, port_end, unbroken_port}
use Rattle.play_world_laws.proofs.QueuedLists.{links_none, links_one, links_some}
use Rattle.play_world_laws.proofs.Standing.{late_commands_are, no_loss, runs, runs_back}
use Rattle.play_step_laws.proofs.Poised.{HasTaker, IsPoised}

-- ---- a link whose change has come to its end, or of which nothing was to be changed

-- at this end: both ports have their formats by then, and the tunnel is there
pub record IsDoneAt (k : Change) (o : Bool) : Type 0 where
  pub steps : 9 ≤ k.step
  pub port : 7 ≤ port_at o k

steps_of : (k : Change) → IsInOrder k → (o : Bool) → 7 ≤ port_at o k → IsDoneAt k o
steps_of k O true h = record { steps = either (nat_le 9 k.step) (λ t. leb-true 9 k.step t) (λ f. let l = leb-false 9 k.step f in let m = O.output_waits (omega arith) in absurd (omega arith)); port = h }
steps_of k O false h = record { steps = either (nat_le 9 k.step) (λ t. leb-true 9 k.step t) (λ f. let l = leb-false 9 k.step f in let m = O.input_waits (omega arith) in absurd (omega arith)); port = h }

enabled_high : (n : ℕ) → 7 ≤ n → (is_enabled_at n ≡ true) × (mode_at n ≡ Steady)
enabled_high zero h = absurd (omega arith)
enabled_high (suc zero) h = absurd (omega arith)
enabled_high (suc (suc zero)) h = absurd (omega arith)
enabled_high (suc (suc (suc zero))) h = absurd (omega arith)
enabled_high (suc (suc (suc (suc zero)))) h = absurd (omega arith)
enabled_high (suc (suc (suc (suc (suc zero))))) h = absurd (omega arith)
enabled_high (suc (suc (suc (suc (suc (suc zero)))))) h = absurd (omega arith)
enabled_high (suc (suc (suc (suc (suc (suc (suc n))))))) h = (refl, refl)

not_held : (o : Bool) (n : ℕ) → 6 ≤ n → is_held_at o n ≡ false
not_held true n h =
    let f : nat_le n 5 ≡ false = either (nat_le n 5) (λ t. let l = leb-true n 5 t in absurd (omega arith)) (λ t. t) in
    either (nat_le 1 n) (λ t. rw (t, f) refl) (λ t. rw t refl)
not_held false n h = refl

joined_high : (n : ℕ) → 8 ≤ n → is_joined_at n ≡ true
joined_high n h = let t = le-leb 8 n h in either (nat_le n 4) (λ u. rw u refl) (λ u. rw (u, t) refl)

set_high : (o : Bool) (n : ℕ) → 7 ≤ n → is_set_at o n ≡ true
set_high true n h = le-leb 6 n (omega arith)
set_high false n h = le-leb 7 n h

done_state : (k : Change) (o : Bool) (link : Link) → IsDoneAt k o → state_by o k link ≡ joined_state link
done_state k o link D =
    let e = enabled_high (port_at o k) D.port in
    let h = not_held o k.step (let s = D.steps in omega arith) in
    let j = joined_high k.step (let s = D.steps in omega arith) in
    let a = e.0 in
    let b = e.1 in
    λ i. record { enabled = a i; mode = b i; flushing = false; held = h i; waiting_mark = None; link = if j i then Some link else None }

untouched_state : (k : Change) (o : Bool) (link : Link) → k.step ≡ 0 → port_at o k ≡ 0 → state_by o k link ≡ joined_state link
untouched_state k true link s e = λ i. record { enabled = is_enabled_at (e i); mode = mode_at (e i); flushing = false; held = is_held_at true (s i); waiting_mark = None; link = if is_joined_at (s i) then Some link else None }
untouched_state k false link s e = λ i. record { enabled = is_enabled_at (e i); mode = mode_at (e i); flushing = false; held = is_held_at false (s i); waiting_mark = None; link = if is_joined_at (s i) then Some link else None }

no_commands_high : (n port : ℕ) → 7 ≤ n → commands_of_port n port ≡ []
no_commands_high zero port h = absurd (omega arith)
no_commands_high (suc zero) port h = absurd (omega arith)
no_commands_high (suc (suc zero)) port h = absurd (omega arith)
no_commands_high (suc (suc (suc zero))) port h = absurd (omega arith)
no_commands_high (suc (suc (suc (suc zero)))) port h = absurd (omega arith)
no_commands_high (suc (suc (suc (suc (suc zero))))) port h = absurd (omega arith)
no_commands_high (suc (suc (suc (suc (suc (suc zero)))))) port h = absurd (omega arith)
no_commands_high (suc (suc (suc (suc (suc (suc (suc n))))))) port h = refl

few_notes : (n port : ℕ) → length (notes_of_port n port) ≤ 1
few_notes zero port = omega arith
few_notes (suc zero) port = omega arith
few_notes (suc (suc zero)) port = omega arith
few_notes (suc (suc (suc zero))) port = omega arith
few_notes (suc (suc (suc (suc zero)))) port = omega arith
few_notes (suc (suc (suc (suc (suc zero))))) port = omega arith
few_notes (suc (suc (suc (suc (suc (suc zero)))))) port = omega arith
few_notes (suc (suc (suc (suc (suc (suc (suc zero))))))) port = omega arith
few_notes (suc (suc (suc (suc (suc (suc (suc (suc n)))))))) port = omega arith

none_announced : (n port : ℕ) → 2 ≤ n → announced_note n port ≡ []
none_announced zero port l = absurd (omega arith)
none_announced (suc zero) port l = absurd (omega arith)
none_announced (suc (suc n)) port l = refl

-- so many frames of any size, where there are none
none_alike : (n j k : ℕ) → n ≡ 0 → n * j ≡ n * k
none_alike n j k z = ap (λ (u : ℕ). u * j) z ∙ (zero-mul j ∙ (sym (zero-mul k) ∙ ap (λ (u : ℕ). u * k) (sym z)))

any_fails : {X : Type 0} (test : X → Bool) (xs : List X) → ((i : ℕ) (y : X) → slice_get xs i ≡ Some y → test y ≡ false) → list_any test xs ≡ false
any_fails test [] h = refl
any_fails test (y ∷ xs) h = rw (h 0 y refl) (any_fails test xs (λ i z e. h (suc i) z e))

-- the names of an end here and in the links of a play
end_names : (x : Cast) (o : Bool) (l : ℕ) → end_at (not o) x l ≡ end_of_link x o l
end_names x true l = refl
end_names x false l = refl

other_names : (x : Cast) (o : Bool) (l : ℕ) → end_at (not (not o)) x l ≡ end_of_link x (not o) l
other_names x true l = refl
other_names x false l = refl

module _ (x : PlayCast) (recent : ℕ) (p : Play) (w : World) (W : IsPlayWorld x recent p w) (c : ℕ) (b : c < components_of x.cast) (a : Component) (e : slice_get w.components (script_place x.cast c) ≡ Some a) (A : IsActorAt x recent p w c a) (H : HasPorts (x.cast).layout p c) where
  -- the change of a late source's link is done at the component
  done_at : (o : Bool) (l : ℕ) → l < links_of x.cast → component_at (x.cast).layout o l ≡ c → ((x.cast).layout).is_late l ≡ true → IsDoneAt (p.change l) o
  done_at true l h g t = steps_of (p.change l) ((W.reached).changes l h).order true (H.outputs l (record { below = h; given_by = g }) t)
  done_at false l h g t = steps_of (p.change l) ((W.reached).changes l h).order false (H.inputs l (record { below = h; taken_by = g }) t)

  untouched : (o : Bool) (l : ℕ) → l < links_of x.cast → ((x.cast).layout).is_late l ≡ false → ((p.change l).step ≡ 0) × (port_at o (p.change l) ≡ 0)
  untouched true l h f = let K = (W.reached).changes l h in let z = K.fixed f in (z, (K.order).output_unsent (omega arith))
  untouched false l h f = let K = (W.reached).changes l h in let z = K.fixed f in (z, (K.order).input_unsent (omega arith))

  rest_state : (o : Bool) (l : ℕ) (link : Link) → l < links_of x.cast → component_at (x.cast).layout o l ≡ c → state_by o (p.change l) link ≡ joined_state link
  rest_state o l link h g = either (((x.cast).layout).is_late l)
      (λ t. done_state (p.change l) o link (done_at o l h g t))
      (λ f. let u = untouched o l h f in untouched_state (p.change l) o link u.0 u.1)

  joined : (o : Bool) (l : ℕ) → l < links_of x.cast → component_at (x.cast).layout o l ≡ c → is_joined_at (p.change l).step ≡ true
  joined o l h g = either (((x.cast).layout).is_late l)
      (λ t. joined_high (p.change l).step (let s = (done_at o l h g t).steps in omega arith))
      (λ f. ap is_joined_at (untouched o l h f).0)

  format_set : (o : Bool) (l : ℕ) → l < links_of x.cast → component_at (x.cast).layout o l ≡ c → is_set (x.cast).layout p o l ≡ true
  format_set o l h g = either (((x.cast).layout).is_late l)
      (λ t. let s = set_high o (p.change l).step (let s = (done_at o l h g t).steps in omega arith) in rw (t, s) refl)
      (λ f. rw f refl)

  -- ---- its ports

  rest_end : (o : Bool) (l : ℕ) (y : Port) → l < links_of x.cast → component_at (x.cast).layout o l ≡ c → IsEndAt x p l o (end_of_link x.cast o l) (end_of_link x.cast (not o) l) y → IsEnd x.cast l (end_at (not o) x.cast l) (end_at (not (not o)) x.cast l) (not o) y
  rest_end o l y h g E =
      let set = format_set o l h g in
      record {
        key = E.key ∙ sym (end_names x.cast o l);
        state = E.state ∙ (rest_state o l (link_to x.cast l (end_of_link x.cast (not o) l)) h g ∙ ap (λ (k : PortKey). joined_state (link_to x.cast l k)) (sym (other_names x.cast o l)));
        direction = E.direction;
        count = E.count;
        size = E.size;
        unit = E.unit set;
        known = E.known ∙ ap not set;
      }

  its_port : (input : Bool) (l : ℕ) → IsLinkAt input ((x.cast).layout).network c l → HasPort x.cast l input a
  its_port true l I = let E = end_there x recent p w W false l c a I.below I.taken_by e in record { port = E.port; there = E.there; end = rest_end false l E.port I.below I.taken_by E.end }
  its_port false l O = let E = end_there x recent p w W true l c a O.below O.given_by e in record { port = E.port; there = E.there; end = rest_end true l E.port O.below O.given_by E.end }

  link_at : (o : Bool) (l : ℕ) → l < links_of x.cast → component_at (x.cast).layout o l ≡ c → IsLinkAt (not o) ((x.cast).layout).network c l
  link_at true l h g = record { below = h; given_by = g }
  link_at false l h g = record { below = h; taken_by = g }

  play_port : (i : ℕ) (q : Port) → port_of a i ≡ Some q → IsPlayPort x.cast c q
  play_port i q f =
      let P = port_end x recent p w W c a b e A i q f in
      record { link = P.link; input = not P.side; of_link = link_at P.side P.link P.below P.of_link; end = rest_end P.side P.link q P.below P.of_link P.end }

  -- ---- what is queued at it

  no_commands : port_commands x.cast p c ≡ []
  no_commands = links_none (x.cast).layout (commands_of_end x.cast p) c (links_of x.cast) (λ o l h t g. no_commands_high (port_at o (p.change l)) (port_number x.cast o l) (done_at o l h g t).port)

  no_settings : settings_notes x.cast p c ≡ []
  no_settings = links_none (x.cast).layout (settings_of_end x.cast p) c (links_of x.cast) each
    where
      each : (o : Bool) (l : ℕ) → l < links_of x.cast → ((x.cast).layout).is_late l ≡ true → component_at (x.cast).layout o l ≡ c → settings_of_end x.cast p o l ≡ []
      each true l h t g = none_announced (p.change l).step ((x.cast).output_port l) (let s = (done_at true l h g t).steps in omega arith)
      each false l h t g = refl

  -- a link of which a completion isn't told is half changed
  half_of : (o : Bool) (l : ℕ) (n : Note) (ns : List Note) → l < links_of x.cast → component_at (x.cast).layout o l ≡ c → ((x.cast).layout).is_late l ≡ true → notes_of_end x.cast p o l ≡ n ∷ ns → IsHalfChanged (p.change l)
  half_of o l n ns h g t q =
      let D = done_at o l h g t in
      let K = ((W.reached).changes l h).order in
      let s = D.steps in
      let low : port_at o (p.change l) < 8 = below_eight (port_at o (p.change l)) (port_number x.cast o l) n ns q in
      (omega arith, which o low)
    where
      below_eight : (m port : ℕ) (n : Note) (ns : List Note) → notes_of_port m port ≡ n ∷ ns → m < 8
      below_eight zero port n ns q = omega arith
      below_eight (suc zero) port n ns q = omega arith
      below_eight (suc (suc zero)) port n ns q = omega arith
      below_eight (suc (suc (suc zero))) port n ns q = omega arith
      below_eight (suc (suc (suc (suc zero)))) port n ns q = omega arith
      below_eight (suc (suc (suc (suc (suc zero))))) port n ns q = omega arith
      below_eight (suc (suc (suc (suc (suc (suc zero)))))) port n ns q = omega arith
      below_eight (suc (suc (suc (suc (suc (suc (suc zero))))))) port n ns q = omega arith
      below_eight (suc (suc (suc (suc (suc (suc (suc (suc m)))))))) port n ns q = absurd cc

      which : (o : Bool) → port_at o (p.change l) < 8 → ((p.change l).output < 8) ⊎ ((p.change l).input < 8)
      which true h = inl h
      which false h = inr h

  few_port_notes : length (port_notes x.cast p c) ≤ 1
  few_port_notes = by_list (port_notes x.cast p c) refl
    where
      by_list : (ns : List Note) → port_notes x.cast p c ≡ ns → length ns ≤ 1
      by_list [] h = omega arith
      by_list (n ∷ ns) h =
          let Q = links_some (x.cast).layout (notes_of_end x.cast p) c (links_of x.cast) n ns h in
          let its = W.half Q.link Q.below Q.late (half_of Q.side Q.link Q.one Q.more Q.below Q.of_link Q.late Q.queued) in
          let all = links_one (x.cast).layout (notes_of_end x.cast p) c (links_of x.cast) Q.link Q.side Q.below Q.late Q.of_link (λ g. ends_apart x recent p w W Q.side Q.link Q.below (g ∙ sym Q.of_link))
          (λ s k m d t g. elim (unbroken_port (p.change k) ((W.reached).changes k m).order (λ u. d (W.half k m t u ∙ sym its)) s) [ inl z ↦ ap (λ (j : ℕ). notes_of_port j (port_number x.cast s k)) z | inr z ↦ ap (λ (j : ℕ). notes_of_port j (port_number x.cast s k)) z ]) in
          let f = few_notes (port_at Q.side (p.change Q.link)) (port_number x.cast Q.side Q.link) in
          let r = ap length (sym h ∙ all) in
          omega arith

  few_events : events_in a.notes ≤ 3
  few_events =
      let z = no_settings in
      let all : out_of a.client_out (notes_given (number_of a) w) ++ a.notes ≡ state_note p.phase (p.stage c) ++ (port_notes x.cast p c ++ end_note (ends_untold x.cast p c)) = A.notes ∙ (λ i. state_note p.phase (p.stage c) ++ (z i ++ (port_notes x.cast p c ++ end_note (ends_untold x.cast p c)))) in
      let m = ap length all in
      let f = length-append (out_of a.client_out (notes_given (number_of a) w)) a.notes in
      let g = length-append (state_note p.phase (p.stage c)) (port_notes x.cast p c ++ end_note (ends_untold x.cast p c)) in
      let h = length-append (port_notes x.cast p c) (end_note (ends_untold x.cast p c)) in
      let u = state_notes p.phase (p.stage c) in
      let t = end_notes (ends_untold x.cast p c) in
      let s = few_port_notes in
      let r = count_by-le-length is_event a.notes in
      omega arith

  calm : sum_by port_reserve a.ports ≡ 0
  calm = sum_none port_reserve a.ports (λ i s f.
      let r = port_of_state w (script_place x.cast c) i a s W.sound e f in
      let P = play_port i r.0 r.1 in
      ap port_reserve (sym r.2 ∙ (P.end).state))

  few_used : p.phase ≡ 2 → IsRunning p c → a.work ≡ None → used a ≤ 4
  few_used two R free =
      let r = runs x recent p w c a A R in
      let late : 3 ≤ p.stage c = elim R [ inl h ↦ h.1 | inr h ↦ absurd (omega (arith, h.0)) ] in
      let cs : a.commands ≡ [] = late_commands_are x recent p w c a A late ∙ no_commands in
      let u = used_at_rest a cs (at_rest_none a r.1) (no_loss x recent p w c a A) free calm in
      let f = few_events in
      omega arith

  -- ---- its file

  early_unit : is_source a.settings.kind ≡ true → is_late a.settings.kind ≡ false → (l : ℕ) → IsOutput ((x.cast).layout).network c l → (n : ℕ) → n ≤ frames_of a.file → n * frame_bytes_of (file_format a.file) ≡ n * (x.cast).unit l
  early_unit q f l O n m = by_file a.file refl m
    where
      k : a.settings.kind ≡ kinds.Source
      k = source_early a.settings.kind q f

      -- the format of its one port
      port_unit : frame_bytes_of (file_port_format a) ≡ (x.cast).unit l
      port_unit =
          let S = (parts_of w W.sound).components (script_place x.cast c) a e in
          let E = end_there x recent p w W true l c a O.below O.given_by e in
          let one : length a.settings.ports ≡ 1 = (S.whole).ports ∙ ap ports_in k in
          let at = (port_parts a ((x.cast).output_port l) E.port E.there).setting in
          let low = slice_get_within a.settings.ports ((x.cast).output_port l) (E.port).setting at in
          let first : (x.cast).output_port l ≡ 0 = omega arith in
          let there : slice_get a.settings.ports 0 ≡ Some (E.port).setting = ap (slice_get a.settings.ports) (sym first) ∙ at in
          let is : file_port_format a ≡ (E.port).setting.definition.format = ap (λ (u : PortSetting). u.definition.format) (get_or_from_slice_get a.settings.ports 0 (E.port).setting (default_setting a.settings.kind (is_input a.settings.kind 0)) there) in
          ap frame_bytes_of is ∙ (E.end).unit (format_set true l O.below O.given_by)

      by_file : (o : Option Attached) → a.file ≡ o → n ≤ frames_of o → n * frame_bytes_of (file_format o) ≡ n * (x.cast).unit l
      by_file None h low = none_alike n (frame_bytes_of (file_format None)) ((x.cast).unit l) (omega arith)
      by_file (Some (To planned)) h low =
          let m = ((parts_of w W.sound).components (script_place x.cast c) a e).file (To planned) h in
          let z : false ≡ true = subst (λ (u : Kind). may_have u (file_port_format a) (To planned) ≡ true) k m in
          absurd cc
      by_file (Some (From format frames)) h low =
          let S = (parts_of w W.sound).components (script_place x.cast c) a e in
          let m : may_have kinds.Source (file_port_format a) (From format frames) ≡ true = subst (λ (u : Kind). may_have u (file_port_format a) (From format frames) ≡ true) k (S.file (From format frames) h) in
          let is = source_format (file_port_format a) format frames m in
          ap (λ (u : ℕ). n * u) (ap frame_bytes_of is ∙ port_unit)

  file_unit : is_source a.settings.kind ≡ true → (l : ℕ) → IsOutput ((x.cast).layout).network c l → (n : ℕ) → n ≤ frames_of a.file → n * frame_bytes_of (file_format a.file) ≡ n * (x.cast).unit l
  file_unit q l O n m = either (is_late a.settings.kind)
      (λ k.
      let t : ((x.cast).layout).is_late l ≡ true = sym (A.late l O) ∙ k in
      ap (λ (u : ℕ). n * u) (ap frame_bytes_of (A.late_format l O t) ∙ (W.formats l O.below t).0))
      (λ k. early_unit q k l O n m)

  -- it has nothing to announce
  silent : must_announce a ≡ false
  silent = any_fails (is_unannounced a) (ports_of a) (λ i q f. either (is_late a.settings.kind)
      (λ k. let P = port_end x recent p w W c a b e A i q f in late_port k P.side P.link q P.below P.of_link P.end)
      (λ k. rw k refl))
    where
      late_port : is_late a.settings.kind ≡ true → (o : Bool) (l : ℕ) (q : Port) → l < links_of x.cast → component_at (x.cast).layout o l ≡ c → IsEndAt x p l o (end_of_link x.cast o l) (end_of_link x.cast (not o) l) q → is_unannounced a q ≡ false
      late_port k true l q h g E =
          let O : IsOutput ((x.cast).layout).network c l = record { below = h; given_by = g } in
          let t : ((x.cast).layout).is_late l ≡ true = sym (A.late l O) ∙ k in
          let format = E.format t (format_set true l h g) in
          let file = A.late_format l O t in
          let same : same_format q.setting.definition.format (file_format a.file) ≡ true = (λ j. same_format (format j) (file j)) ∙ format_itself (x.format l) in
          ap (λ (u : Bool). is_late a.settings.kind && not q.state.held && not u) same ∙ and_false_right (is_late a.settings.kind && not q.state.held)
      late_port k false l q h g E =
          let reads : (((x.cast).layout).network).is_source c ≡ true = sym A.source ∙ late_reads a.settings.kind k in
          let unfed : (((x.cast).layout).network).is_source c ≡ false = ap (λ (j : ℕ). (((x.cast).layout).network).is_source j) (sym g) ∙ (((W.cast_is).layout).network).unfed l h in
          let z : true ≡ false = sym reads ∙ unfed in
          absurd cc

  taker : (l : ℕ) → l < links_of x.cast → HasTaker x.cast w l
  taker l h = let r = actor_there x recent p w (taker_of x.cast l) W (end_inside x recent p w W false l h) in record { component = r.0; there = r.1; number = (r.2).number }

  pub poised : IsPoised x.cast p w c a
  poised = record {
    cast = W.cast_is;
    reached = W.reached;
    sound = W.sound;
    below = b;
    there = e;
    number = A.number;
    fit = (A.set_for).fit;
    source = A.source;
    sink = A.sink;
    file = A.file;
    file_unit = file_unit;
    silent = silent;
    part = A.part;
    done = A.done;
    runs = runs x recent p w c a A;
    runs_back = runs_back x recent p w c a A;
    few = few_used;
    rests = H;
    its = its_port;
    ports = play_port;
    tunnel = its_tunnel;
    apart = λ l h. (W.wired l h).apart;
    taker = taker;
    viewed = W.viewed;
    headers = W.headers;
  }
    where
      its_tunnel : (input : Bool) (l : ℕ) → IsLinkAt input ((x.cast).layout).network c l → IsTunnel (ports_in_list w.components) (output_at x.cast l) (input_at x.cast l) (supplier_of x.cast l)
      its_tunnel true l I = tunnel x recent p w W l I.below (joined false l I.below I.taken_by)
      its_tunnel false l O = tunnel x recent p w W l O.below (joined true l O.below O.given_by)

-- ---- where the machine gives a work that isn't an announcement the ports rest

steady_at : (n : ℕ) → (is_enabled_at n && is_steady (mode_at n) && true) ≡ true → (n ≤ 1) ⊎ (7 ≤ n)
steady_at zero h = inl (omega arith)
steady_at (suc zero) h = inl (omega arith)
steady_at (suc (suc zero)) h = absurd cc
steady_at (suc (suc (suc zero))) h = absurd cc
steady_at (suc (suc (suc (suc zero)))) h = absurd cc
steady_at (suc (suc (suc (suc (suc zero))))) h = absurd cc
steady_at (suc (suc (suc (suc (suc (suc zero)))))) h = absurd cc
steady_at (suc (suc (suc (suc (suc (suc (suc n))))))) h = inr (omega arith)

high_set : (o : Bool) (n : ℕ) → is_set_at o n ≡ true → 6 ≤ n
high_set true n h = leb-true 6 n h
high_set false n h = let l = leb-true 7 n h in omega arith

not_low : (o : Bool) (k : Change) → IsInOrder k → 6 ≤ k.step → port_at o k ≤ 1 → ⊥
not_low true k O h l = let m = O.told (omega arith) in omega (arith, m.0, l)
not_low false k O h l = let m = O.told (omega arith) in omega (arith, m.1, l)

either_false : (m h t : Bool) → m ≡ false → (not m && (h || t)) ≡ false → t ≡ false
either_false m h t e f = (not_either h t (rw e at f)).1

not_unset : (b : Bool) → not b ≡ false → b ≡ true
not_unset true e = refl
not_unset false e = absurd cc

module _ (x : PlayCast) (recent : ℕ) (p : Play) (w : World) (W : IsPlayWorld x recent p w) (c : ℕ) (a : Component) (e : slice_get w.components (script_place x.cast c) ≡ Some a) (opens : each_port a is_open ≡ true) (silent : must_announce a ≡ false)
    (free : first_of_these (map (held_test a) (ports_of a)) ≡ None) where
  port_rests : (o : Bool) (l : ℕ) → l < links_of x.cast → component_at (x.cast).layout o l ≡ c → ((x.cast).layout).is_late l ≡ true → 7 ≤ port_at o (p.change l)
  port_rests o l h g t =
      let E = end_there x recent p w W o l c a h g e in
      let k : Change = p.change l in
      let open_ : (is_enabled_at (port_at o k) && is_steady (mode_at (port_at o k)) && true) ≡ true = sym (ap (λ (s : PortState). s.enabled && is_steady s.mode && not s.flushing) (E.end).state) ∙ all_pass is_open (ports_of a) (port_number x.cast o l) E.port opens E.there in
      let test = map_first (held_test a) (ports_of a) (port_number x.cast o l) E.port free E.there in
      let known : is_auto (E.port).setting.definition.format ≡ false = either_false (must_announce a) (E.port).state.held (is_auto (E.port).setting.definition.format) silent test in
      let set : is_set (x.cast).layout p o l ≡ true = not_unset (is_set (x.cast).layout p o l) (sym (E.end).known ∙ known) in
      let at : is_set_at o k.step ≡ true = sym (ap (λ (u : Bool). not u || is_set_at o k.step) t) ∙ set in
      elim (steady_at (port_at o k) open_) [
        | inl s ↦ absurd (not_low o k ((W.reached).changes l h).order (high_set o k.step at) s)
        | inr s ↦ s
      ]

  pub ports_rest : HasPorts (x.cast).layout p c
  ports_rest = record { outputs = λ l O t. port_rests true l O.below O.given_by t; inputs = λ l I t. port_rests false l I.below I.taken_by t }
