-- Headers move from one end of a tunnel to the other, in each world that a graph stands for.
use Rattle.std.proofs.Common.{◌≡◌, ℕ, true, Option, Some, None, MatchOption, IsSomeAnd, slice_get, refl, sym, ◌∙◌, ap, subst}
use Rattle.il_machine.specs.declared.answer.Progress.{Progress}
use Rattle.il_machine.specs.declared.port.Link.{Link}
use Rattle.il_machine.specs.declared.port.Port.{Port}
use Rattle.il_machine.specs.declared.header.HeaderState.{HeaderState}
use Rattle.il_machine.specs.declared.header.Spot.TheVariants.{TodoBack}
use Rattle.il_machine.specs.World.{Component, World, port_of}
use Rattle.il_machine.specs.Headers.{seen, find_header, is_for, unchanged, Once}
use Rattle.il_machine.specs.Ports.{is_input_port}
use Rattle.il_machine.specs.Flow.{front_put, handed_back, handed_over, returned}
use Rattle.il_machine.specs.Sound.{Sound, port_at}
use Rattle.stock_laws.specs.Bare.{StandsBare, StepsBare}
use Rattle.machine_laws.proofs.Keys.{there_is}
use Rattle.machine_laws.proofs.Flowing.{sound_handed_over, sound_returned}
use Rattle.machine_laws.proofs.Listed.{todo_in, done_in}
use Rattle.machine_laws.proofs.Lookups.{port_there_at}
use Rattle.machine_laws.proofs.Parts.{ports_in_list, parts_of}
use Rattle.machine_laws.proofs.Ties.{for_both}
use Rattle.stock_laws.proofs.Standing.{found}
use Rattle.stock_laws.proofs.Following.{stay}
use Rattle.stock_laws.proofs.Stocking.{lift_stock, with_headers, stands_for}
use Rattle.il_component.specs.Entries.{Entry, component_of}
use Rattle.port_stock.specs.Kept.{StockKept, stocked}
use Rattle.graph_core.specs.Standing.{SoundWorld}
use Rattle.graph_core.specs.Moving.{AreShared, Moves}
use Rattle.graph_core.specs.Entries.{Entries, kept, component_at}
use Rattle.graph_core.proofs.Happens.{own_there}
use Rattle.graph_core.proofs.Moving.{put_alone, put_keeps, returned_alone, returned_keeps}
use Rattle.port_rules.proofs.Noticed.{IsNoted}
use Rattle.graph_core.proofs.Replacing.{there, next_world}
use Rattle.graph_core.proofs.Stepping.{at_world, same_made, stock_of, with_stocked}

-- ---- a change of headers alone

module _ {C : Type 0} (progress : C → Progress) (g : Entries C) (after : StockKept) (change : World → World) (M : Moves change (stocked g.stock) (stocked after)) (alone : (w : World) → change w ≡ record w { headers = (change w).headers })
    (keeps : (w : World) (m : ℕ) → Once w.headers → IsNoted w.headers m → find_header m (change w).headers ≡ find_header m w.headers) where
  pub moved_steps : StepsBare (kept progress g) (kept progress (with_stocked progress after g)) (λ w v. v ≡ change w)
  moved_steps = λ w S.
      let x = lift_stock (kept progress g) (stocked after) (λ w. (change w).headers) M.key
      (λ w S. M.stands w (stands_for (stocked g.stock) (kept progress g) w (stock_of progress g) S))
      (λ w S. λ j h b. let r = there_is (find_header _ w.headers) _ (S.noticed j h b).1 in keeps w _ S.once (record { header = r.0; found = r.1; notice = r.2.1 })) w S in
      (x.0, x.1, x.2 ∙ (ap (λ (n : ℕ). with_headers (change w).headers n w) M.next ∙ (same_made progress g w (change w).headers S ∙ sym (alone w))))

  pub moved_worlds : SoundWorld (kept progress g) → ((w : World) → StandsBare (kept progress g) w → Sound w → Sound (change w)) → SoundWorld (kept progress (with_stocked progress after g))
  moved_worlds W sound = next_world (kept progress g) (kept progress (with_stocked progress after g)) (λ w v. v ≡ change w) W moved_steps (λ w v S f h. subst Sound (sym f) (sound w S h))

module _ {C : Type 0} (progress : C → Progress) (g : Entries C) (i : ℕ) (e : Entry C) (index : ℕ) (p : Port) (W : SoundWorld (kept progress g)) (at : slice_get g.entries i ≡ Some e) (port : port_of (component_of e) index ≡ Some p) where
  abbrev pub Clause : Entries C → (Component → Port → World → World) → Type 0
  Clause after change = MatchOption (component_at i g) ⊥ (λ c. MatchOption (port_of c index) ⊥ (λ p. StepsBare (kept progress g) (kept progress after) (λ w v. v ≡ change c p w)))

  clause_from : (after : Entries C) (change : Component → Port → World → World) → StepsBare (kept progress g) (kept progress after) (λ w v. v ≡ change (component_of e) p w) → Clause after change
  clause_from after change f = rw (there progress g i e at, port) f

  clause_to : (after : Entries C) (change : Component → Port → World → World) → Clause after change → StepsBare (kept progress g) (kept progress after) (λ w v. v ≡ change (component_of e) p w)
  clause_to after change f = rw (there progress g i e at, port) at f

  -- ---- the port isn't joined

  pub over_nothing : p.state.link ≡ None → Clause g (λ c p. handed_over p)
  over_nothing l = clause_from g (λ c p. handed_over p) (stay (kept progress g) (λ w v. v ≡ handed_over p w) (λ w S. rw l refl))

  pub unjoined : p.state.link ≡ None → IsSomeAnd (component_at i g) (λ c. IsSomeAnd (port_of c index) (λ p. p.state.link ≡ None))
  unjoined l = rw (there progress g i e at, port) l

  pub noticed_back : p.state.link ≡ None → (after : Entries C) → Clause after (λ c p. handed_back i c p None) → Clause after (λ c p. handed_back i c p p.state.link)
  noticed_back l after f =
      let s = clause_to after (λ c p. handed_back i c p None) f in
      clause_from after (λ c p. handed_back i c p p.state.link) (subst (λ (o : Option Link). StepsBare (kept progress g) (kept progress after) (λ w v. v ≡ handed_back i (component_of e) p o w)) (sym l) s)

  -- ---- the port is one end of a tunnel

  module _ (link : Link) (joined : p.state.link ≡ Some link) where
    abbrev w : World
    w = W.world

    here : port_at p.key w.components ≡ Some p
    here = port_there_at w.numbered i w.components (component_of e) index p (parts_of w W.sound).rising (at_world progress g i e w W.stands at) port

    pub shared : AreShared p.key link.peer (stocked g.stock)
    shared = λ n h s o.
        let F = found (stocked g.stock) w.headers n h (stands_for (stocked g.stock) (kept progress g) w (stock_of progress g) W.stands) s in
        let own : is_for p.key h ≡ true = own_there progress g W n h s p.key o in
        let f : is_for p.key F.it.state ≡ true = subst (λ (x : HeaderState). is_for p.key x ≡ true) (sym F.state) own in
        let both = for_both (ports_in_list w.components) w.headers p.key p link F.it.state (parts_of w W.sound).tied here joined ((parts_of w W.sound).tied.placed n F.it F.is) f in
        subst (λ (x : HeaderState). is_for link.peer x ≡ true) F.state both

    module _ (after : StockKept) where
      abbrev over : World → World
      over w = front_put link.peer TodoBack unchanged ((seen w.headers).done p.key) w

      over_is : (w : World) → handed_over p w ≡ over w
      over_is w = rw joined refl

      over_keeps : (w : World) (m : ℕ) → Once w.headers → IsNoted w.headers m → find_header m (over w).headers ≡ find_header m w.headers
      over_keeps w m o N = put_keeps p.key link.peer TodoBack unchanged ((seen w.headers).done p.key) w m (λ r. refl) o (done_in p.key w.headers o) N

      over_alone : (w : World) → over w ≡ record w { headers = (over w).headers }
      over_alone w = put_alone link.peer TodoBack unchanged ((seen w.headers).done p.key) w

      pub over_returns : Moves over (stocked g.stock) (stocked after) → Clause (with_stocked progress after g) (λ c p. handed_over p)
      over_returns M = clause_from (with_stocked progress after g) (λ c p. handed_over p) (λ w S.
          let x = moved_steps progress g after over M over_alone over_keeps w S in
          (x.0, x.1, x.2 ∙ sym (over_is w)))

      pub over_worlds : Moves over (stocked g.stock) (stocked after) → SoundWorld (kept progress (with_stocked progress after g))
      over_worlds M = moved_worlds progress g after over M over_alone over_keeps W
          (λ w S h. subst Sound (over_is w) (sound_handed_over w i (component_of e) index p h (at_world progress g i e w S at) port))

      abbrev back : World → World
      back w = returned link.peer (is_input_port p) ((seen w.headers).done p.key) ((seen w.headers).todo p.key) w

      back_is : (w : World) → handed_back i (component_of e) p p.state.link w ≡ back w
      back_is w = ap (λ (o : Option Link). handed_back i (component_of e) p o w) joined

      back_keeps : (w : World) (m : ℕ) → Once w.headers → IsNoted w.headers m → find_header m (back w).headers ≡ find_header m w.headers
      back_keeps w m o N = returned_keeps p.key link.peer (is_input_port p) ((seen w.headers).done p.key) ((seen w.headers).todo p.key) w m o (done_in p.key w.headers o) (todo_in p.key w.headers o) N

      back_alone : (w : World) → back w ≡ record w { headers = (back w).headers }
      back_alone w = returned_alone link.peer (is_input_port p) ((seen w.headers).done p.key) ((seen w.headers).todo p.key) w

      pub back_returns : Moves back (stocked g.stock) (stocked after) → Clause (with_stocked progress after g) (λ c p. handed_back i c p p.state.link)
      back_returns M = clause_from (with_stocked progress after g) (λ c p. handed_back i c p p.state.link) (λ w S.
          let x = moved_steps progress g after back M back_alone back_keeps w S in
          (x.0, x.1, x.2 ∙ sym (back_is w)))

      pub back_worlds : Moves back (stocked g.stock) (stocked after) → SoundWorld (kept progress (with_stocked progress after g))
      back_worlds M = moved_worlds progress g after back M back_alone back_keeps W
          (λ w S h. sound_returned w i (component_of e) index p link h (at_world progress g i e w S at) port joined)
