-- While a component isn't at the end of its StateSet no link is half changed: nothing of a change is queued at it, and its ports rest.
use Rattle.std.proofs.Common.{◌≡◌, ◌≢◌, ◌⊎◌, inl, inr, ℕ, zero, suc, ◌<◌, ◌≤◌, Bool, true, false, not, List, [], ◌∷◌, ◌++◌, length, length-append, slice_get, sum_by, Some, refl, sym, ◌∙◌, ap, arith}
use Rattle.std.proofs.lemmas.List.Sums.{count_by-le-length}
use Rattle.omx_types.specs.declared.command.Note.{Note}
use Rattle.il_machine.specs.declared.port.Link.{Link}
use Rattle.il_machine.specs.Finishing.{end_note}
use Rattle.il_machine.specs.Queued.{notes_given}
use Rattle.il_machine.specs.Room.{events_in, is_event, port_reserve}
use Rattle.il_machine.specs.World.{Component, World, number_of}
use Rattle.play_model.specs.Changes.{Change, IsHalfChanged, port_at}
use Rattle.play_model.specs.Play.{Play, component_at}
use Rattle.play_world_laws.specs.Cast.{components_of, links_of, script_place}
use Rattle.play_world_laws.specs.Standing.{commands_at, standing}
use Rattle.play_world_laws.specs.Telling.{out_of, state_note}
use Rattle.play_world_laws.specs.Wiring.{link_to}
use Rattle.play_world_laws.specs.Worlds.{ends_untold}
use Rattle.play_world_laws.proofs.Lists.{sum_none}
use Rattle.play_world_laws.proofs.Rooms.{end_notes, port_of_state, state_notes}
use Rattle.play_world_laws.specs.Changing.{state_by}
use Rattle.play_world_laws.specs.PlayWorlds.{IsActorAt, IsPlayWorld, PlayCast, announced_note, commands_of_end, end_of_link, notes_of_end, port_commands, port_notes, settings_notes, settings_of_end}
use Rattle.play_world_laws.proofs.ChangeEnds.{port_end, source_lists, unbroken_port}
use Rattle.play_world_laws.proofs.QueuedLists.{links_none, links_some}

append_nil : {A : Type 0} (xs : List A) → xs ++ [] ≡ xs
append_nil [] = refl
append_nil {A} (x ∷ xs) = ap (λ (ys : List A). x ∷ ys) (append_nil xs)

-- nothing behind it
pub appended : {A : Type 0} (xs ys : List A) → ys ≡ [] → xs ≡ xs ++ ys
appended {A} xs ys e = sym (ap (λ (zs : List A). xs ++ zs) e ∙ append_nil xs)

reserve_none : (s : Bool) (k : Change) (link : Link) → (port_at s k ≡ 0) ⊎ (port_at s k ≡ 8) → port_reserve (state_by s k link) ≡ 0
reserve_none s k link (inl z) = rw z refl
reserve_none s k link (inr z) = rw z refl

few_announced : (n port : ℕ) → length (announced_note n port) ≤ 1
few_announced zero port = omega arith
few_announced (suc zero) port = omega arith
few_announced (suc (suc n)) port = omega arith

module _ (x : PlayCast) (recent : ℕ) (p : Play) (w : World) (W : IsPlayWorld x recent p w) (c : ℕ) (b : c < components_of x.cast) (a : Component) (e : slice_get w.components (script_place x.cast c) ≡ Some a) (A : IsActorAt x recent p w c a) where
  -- at most one announcement is queued
  pub few_settings : length (settings_notes x.cast p c) ≤ 1
  few_settings = by_list (settings_notes x.cast p c) refl
    where
      by_list : (ns : List Note) → settings_notes x.cast p c ≡ ns → length ns ≤ 1
      by_list [] h = omega arith
      by_list (n ∷ ns) h =
          let H = links_some (x.cast).layout (settings_of_end x.cast p) c (links_of x.cast) n ns h in
          of_output H.side H.link H.below H.late H.of_link H.one H.more H.queued
        where
          of_output : (s : Bool) (l : ℕ) → l < links_of x.cast → ((x.cast).layout).is_late l ≡ true → component_at (x.cast).layout s l ≡ c → (m : Note) (ms : List Note) → settings_of_end x.cast p s l ≡ m ∷ ms → length (n ∷ ns) ≤ 1
          of_output false l d t g m ms q = absurd cc
          of_output true l d t g m ms q =
              let all = source_lists x recent p w W l d t c g a e A (settings_of_end x.cast p) in
              let f = few_announced (p.change l).step ((x.cast).output_port l) in
              let same : n ∷ ns ≡ announced_note (p.change l).step ((x.cast).output_port l) = sym h ∙ all in
              let r = ap length same in
              omega arith

  module _ (n : p.stage c ≢ 4) where
    unbroken : (l : ℕ) → l < links_of x.cast → IsHalfChanged (p.change l) → ⊥
    unbroken l d h = let r = ((W.reached).changes l d).half h in n (r.1 c b)

    rests : (s : Bool) (l : ℕ) → l < links_of x.cast → (port_at s (p.change l) ≡ 0) ⊎ (port_at s (p.change l) ≡ 8)
    rests s l d = unbroken_port (p.change l) ((W.reached).changes l d).order (unbroken l d) s

    pub no_commands : port_commands x.cast p c ≡ []
    no_commands = links_none (x.cast).layout (commands_of_end x.cast p) c (links_of x.cast) (λ s l d t g. elim (rests s l d) [ inl z ↦ rw z refl | inr z ↦ rw z refl ])

    pub no_port_notes : port_notes x.cast p c ≡ []
    no_port_notes = links_none (x.cast).layout (notes_of_end x.cast p) c (links_of x.cast) (λ s l d t g. elim (rests s l d) [ inl z ↦ rw z refl | inr z ↦ rw z refl ])

    pub stands_so : a ≡ standing p.phase (p.stage c) a
    stands_so = A.stands ∙ (let z = no_commands in λ i. record (standing p.phase (p.stage c) a) { commands = (ap (λ cs. commands_at p.phase (p.stage c) ++ cs) z ∙ append_nil (commands_at p.phase (p.stage c))) i })

    pub calm : sum_by port_reserve a.ports ≡ 0
    calm = sum_none port_reserve a.ports (λ i s f.
        let r = port_of_state w (script_place x.cast c) i a s W.sound e f in
        let P = port_end x recent p w W c a b e A i r.0 r.1 in
        ap port_reserve (sym r.2 ∙ (P.end).state) ∙ reserve_none P.side (p.change P.link) (link_to x.cast P.link (end_of_link x.cast (not P.side) P.link)) (rests P.side P.link P.below))

    pub few_events : events_in a.notes ≤ 3
    few_events =
        let z = no_port_notes in
        let all : out_of a.client_out (notes_given (number_of a) w) ++ a.notes ≡ state_note p.phase (p.stage c) ++ (settings_notes x.cast p c ++ end_note (ends_untold x.cast p c)) = A.notes ∙ (λ i. state_note p.phase (p.stage c) ++ (settings_notes x.cast p c ++ (z i ++ end_note (ends_untold x.cast p c)))) in
        let m = ap length all in
        let f = length-append (out_of a.client_out (notes_given (number_of a) w)) a.notes in
        let g = length-append (state_note p.phase (p.stage c)) (settings_notes x.cast p c ++ end_note (ends_untold x.cast p c)) in
        let h = length-append (settings_notes x.cast p c) (end_note (ends_untold x.cast p c)) in
        let u = state_notes p.phase (p.stage c) in
        let t = end_notes (ends_untold x.cast p c) in
        let s = few_settings in
        let r = count_by-le-length is_event a.notes in
        omega arith
