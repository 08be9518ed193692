-- A header of a link is made: at the end that supplies the link, and in no list of another.
use Rattle.std.proofs.Common.{◌≡◌, ◌≢◌, ◌⊎◌, inl, inr, ℕ, ◌+◌, ◌*◌, ◌/◌, ◌<◌, ◌≤◌, Bool, true, false, not, nat_le, List, [], ◌∷◌, ◌++◌, Some, None, refl, sym, ◌∙◌, ap, subst, le-leb, leb-true, leb-false, arith}
use Rattle.std.proofs.lemmas.Bool.{cases_eq}
use Rattle.std.proofs.Math.Nat.{zero-div}
use Rattle.il_machine.specs.declared.port.Link.{Link}
use Rattle.il_machine.specs.declared.port.Port.{Port}
use Rattle.il_machine.specs.declared.port.PortKey.{PortKey}
use Rattle.il_machine.specs.Flow.{supplied_spot, tunnel_header, with_supplied}
use Rattle.il_machine.specs.Headers.{empty_load, find_header, in_done, in_todo, is_done, is_for, is_todo, same_key, spot_queue}
use Rattle.il_machine.specs.Ports.{is_input_port}
use Rattle.il_machine.specs.Sound.{Sound}
use Rattle.il_machine.specs.World.{HeaderRecord, World}
use Rattle.machine_laws.proofs.Finding.{either, push_else, push_last}
use Rattle.machine_laws.proofs.Keys.{for_peer, for_port, key_same}
use Rattle.stock_laws.proofs.Leaving.{and_false_right}
use Rattle.play_model.specs.Network.{LinkState, headers_of}
use Rattle.play_model.specs.Progress.{all_headers, sum_to}
use Rattle.play_model.specs.Acts.{Act, CanAct, acted, supplied}
use Rattle.play_model.specs.Changes.{Change, IsEnabledPort, IsInOrder}
use Rattle.play_model.specs.Play.{Play, made}
use Rattle.play_model.proofs.Handing.{act_reaches}
use Rattle.play_model.proofs.Reaching.{more_supplied}
use Rattle.play_world_laws.specs.View.{LinkEnds, link_view}
use Rattle.play_world_laws.proofs.Counts.{keys_apart}
use Rattle.play_world_laws.proofs.Made.{made_beside, made_ready, made_spent}
use Rattle.play_world_laws.specs.Cast.{input_at, links_of, output_at}
use Rattle.play_world_laws.specs.Wiring.{ends_of, work_in}
use Rattle.play_world_laws.specs.Worlds.{HasLink}
use Rattle.play_world_laws.proofs.Counting.{next_unmade, sum_less, unmade_worked}
use Rattle.play_world_laws.proofs.Flowing.{key_not}
use Rattle.play_world_laws.proofs.Passing.{changed_else, changed_here}
use Rattle.play_world_laws.specs.Changing.{is_joined_at}
use Rattle.play_world_laws.specs.PlayWorlds.{IsPlayWorld, PlayCast, end_of_link, left_to_make, made_again}
use Rattle.play_world_laws.proofs.Linking.{link_changed}
use Rattle.play_world_laws.proofs.PassedHeaders.{left_keeps}

-- ---- the header

abbrev pub new_header : ℕ → Port → PortKey → HeaderRecord
new_header n q peer = record { state = tunnel_header n q peer; load = empty_load None }

pub supplied_is : (w : World) (q : Port) (link : Link) → q.state.link ≡ Some link → with_supplied q w ≡ record w { headers = w.headers ++ new_header w.made q link.peer ∷ []; made = w.made + 1 }
supplied_is w q link e = rw e refl

supplied_closed : (by : Bool) (y : LinkState) → ((supplied by y).closed ≡ y.closed) × ((supplied by y).taken ≡ y.taken)
supplied_closed true y = (refl, refl)
supplied_closed false y = (refl, refl)

-- it is in no list of a port that isn't its own
unlisted : (n : ℕ) (q : Port) (peer key : PortKey) → same_key q.key key ≡ false → (in_todo key (tunnel_header n q peer) ≡ false) × (in_done key (tunnel_header n q peer) ≡ false)
unlisted n q peer key e = (rw e (and_false_right (is_todo (spot_queue (supplied_spot (is_input_port q))))), rw e (and_false_right (is_done (spot_queue (supplied_spot (is_input_port q))))))

-- in its own, an output's is in todo and an input's in done
listed : (n : ℕ) (q : Port) (peer : PortKey) (input : Bool) → is_input_port q ≡ input → (in_todo q.key (tunnel_header n q peer) ≡ not input) × (in_done q.key (tunnel_header n q peer) ≡ input)
listed n q peer true e = (rw e refl, rw (e, key_same q.key) refl)
listed n q peer false e = (rw (e, key_same q.key) refl, rw e refl)

-- ---- an enabled link

-- it has its tunnel; and nothing of it was disabled, or all is to be made again
pub enabled_link : (k : Change) → IsInOrder k → IsEnabledPort k.output → IsEnabledPort k.input → ((k.step ≤ 4) × (k.output ≤ 1) × (k.input ≤ 1)) ⊎ (9 ≤ k.step)
enabled_link k O e f = either (nat_le k.step 4)
    (λ t.
    let low = leb-true k.step 4 t in
    let a = O.output_waits (omega arith) in
    let b = O.input_waits (omega arith) in
    inl (low, elim e [ inl h ↦ h | inr h ↦ absurd (omega arith) ], elim f [ inl h ↦ h | inr h ↦ absurd (omega arith) ]))
    (λ t.
    let high = leb-false k.step 4 t in
    let told = O.told (omega arith) in
    let a = told.0 in
    inr (either (nat_le 9 k.step)
    (λ u. leb-true 9 k.step u)
    (λ u.
    let few = leb-false 9 k.step u in
    let b = O.output_waits (omega arith) in
    absurd (elim e [ inl h ↦ omega arith | inr h ↦ omega arith ]))))

pub enabled_joined : (k : Change) → IsInOrder k → IsEnabledPort k.output → IsEnabledPort k.input → is_joined_at k.step ≡ true
enabled_joined k O e f = elim (enabled_link k O e f) [
  | inl h ↦ let t : nat_le k.step 4 ≡ true = le-leb k.step 4 h.0 in rw t refl
  | inr h ↦
      let t : nat_le 8 k.step ≡ true = le-leb 8 k.step (omega arith) in
      either (nat_le k.step 4) (λ u. rw u refl) (λ u. rw (u, t) refl)
]

-- ---- the link

module _ (x : PlayCast) (recent : ℕ) (p : Play) (w : World) (W : IsPlayWorld x recent p w) (l : ℕ) (b : l < links_of x.cast) (C : CanAct (x.cast).layout p (Act.Supply l)) (q : Port) (peer : PortKey) where
  abbrev r : HeaderRecord
  r = new_header w.made q peer

  abbrev ks : List HeaderRecord
  ks = w.headers ++ r ∷ []

  abbrev pub now : Play
  now = acted (x.cast).layout (Act.Supply l) p

  abbrev by : Bool
  by = ((x.cast).layout).by_output l

  abbrev count : ℕ
  count = (((x.cast).layout).network).count l

  new : find_header w.made w.headers ≡ None
  new = next_unmade w W.sound

  -- a header is the new one, or was there
  which : (n : ℕ) (y : HeaderRecord) → find_header n ks ≡ Some y → (r ≡ y) ⊎ (find_header n w.headers ≡ Some y)
  which n y g = elim (cases_eq w.made n) [
    | inl e ↦
        let here : find_header n ks ≡ Some r = subst (λ (k : ℕ). find_header k ks ≡ Some r) e (push_last w.headers r new) in
        let t : Some r ≡ Some y = sym here ∙ g in
        inl cc
    | inr d ↦ inr (sym (push_else n w.headers r d) ∙ g)
  ]

  made_now : made now l ≡ made p l + 1
  made_now = ap headers_of (changed_here (supplied by) l p.flow) ∙ more_supplied by ((p.flow).link l)

  -- ---- how many are still to be made

  left_here : left_to_make x.cast now l + 1 ≤ left_to_make x.cast p l
  left_here =
      let m = made_now in
      let few : made p l < count = C.3 in
      let K = (W.reached).changes l b in
      let low = (W.reached).phase in
      elim (enabled_link (p.change l) K.order (C.4).0 (C.4).1) [
        | inl h ↦
            let one : p.phase ≤ 1 = either (nat_le p.phase 1) (λ t. leb-true p.phase 1 t) (λ t.
            let two = leb-false p.phase 1 t in
            absurd (either (nat_le p.phase 3)
            (λ u. let f = (W.reached).full (omega arith) (leb-true p.phase 3 u) l b (inl (h.1, h.2)) in omega arith)
            (λ u. gone (let z = leb-false p.phase 3 u in omega arith)))) in
            let t : nat_le p.phase 1 ≡ true = le-leb p.phase 1 one in
            let s : nat_le (p.change l).step 4 ≡ true = le-leb (p.change l).step 4 h.0 in
            either (((x.cast).layout).is_late l) (λ u. rw (u, s, t) (omega arith)) (λ u. rw (u, t) (omega arith))
        | inr h ↦
            let late : ((x.cast).layout).is_late l ≡ true = either (((x.cast).layout).is_late l) (λ t. t) (λ f. let z = K.fixed f in absurd (omega arith)) in
            let s : nat_le (p.change l).step 4 ≡ false = either (nat_le (p.change l).step 4) (λ t. let z = leb-true (p.change l).step 4 t in absurd (omega arith)) (λ t. t) in
            let t : nat_le p.phase 3 ≡ true = either (nat_le p.phase 3) (λ u. u) (λ u. absurd (gone (let z = leb-false p.phase 3 u in omega arith))) in
            rw (late, s, t) (omega arith)
      ]
    where
      -- once Loaded is begun no link waits for headers but where its supplier is on its way
      gone : p.phase ≡ 4 → ⊥
      gone four =
          let few : made p l < count = C.3 in
          let f = (W.reached).leaving four l b few in
          elim C.1 [
            | inl h ↦ let z = h.0 in omega arith
            | inr g ↦ elim g [
              | inl h ↦ let z = h.0 in omega arith
              | inr k ↦ elim k [ inl h ↦ let z = h.0 in omega arith | inr h ↦ let z = h.1 in omega arith ]
            ]
          ]

  numbers_more : w.made + 1 + sum_to (links_of x.cast) (left_to_make x.cast now) ≤ all_headers ((x.cast).layout).network + sum_to (links_of x.cast) (made_again x.cast)
  numbers_more =
      let here = left_here in
      let s = sum_less (links_of x.cast) (left_to_make x.cast now) (left_to_make x.cast p) l b here (λ k h. elim (cases_eq k l) [
        | inl e ↦ subst (λ (j : ℕ). left_to_make x.cast now j ≤ left_to_make x.cast p j) (sym e) (omega (arith, here))
        | inr d ↦ left_keeps x p now k refl refl (ap headers_of (changed_else (supplied by) l p.flow k d))
      ]) in
      let n = W.numbers in
      omega arith

  -- ---- the world, by what the header is for this link, and that it is in no list of the others

  pub supply_plays : link_view (ends_of x.cast (work_in w.components) p l) ks ≡ supplied by (link_view (ends_of x.cast (work_in w.components) p l) w.headers)
      → ((k : ℕ) → k < links_of x.cast → k ≢ l → (same_key q.key (output_at x.cast k) ≡ false) × (same_key q.key (input_at x.cast k) ≡ false))
      → ((k : ℕ) (s : Bool) → k < links_of x.cast → k ≢ l → is_for (end_of_link x.cast s k) r.state ≡ false)
      → is_for (output_at x.cast l) r.state ≡ true → q.setting.definition.size ≡ (x.cast).size l
      → Sound (record w { headers = ks; made = w.made + 1 }) → IsPlayWorld x recent now (record w { headers = ks; made = w.made + 1 })
  supply_plays here apart beside f s S =
      let works = work_in w.components in
      let R = act_reaches (x.cast).layout p (Act.Supply l) W.reached C in
      let fields = supplied_closed by ((p.flow).link l) in
      let joined = enabled_joined (p.change l) ((W.reached).changes l b).order (C.4).0 (C.4).1 in
      link_changed x recent p w W l b (supplied by) ks (w.made + 1) fields.0 fields.1 here
      (λ k h d.
      let a = apart k h d in
      let y : LinkEnds = ends_of x.cast works p k in
      let o = unlisted w.made q peer (output_at x.cast k) a.0 in
      let i = unlisted w.made q peer (input_at x.cast k) a.1 in
      made_beside y w.headers r new (unmade_worked w w.made (input_at x.cast k) W.sound new) o.0 o.1 i.0 i.1)
      (λ n y g. elim (which n y g) [
        | inl is ↦
            let z : 0 / (x.cast).unit l * (x.cast).unit l ≡ 0 = rw (zero-div ((x.cast).unit l)) (omega arith) in
            subst (λ (a : HeaderRecord). HasLink x.cast a) is (record { link = l; below = b; whole = record { for_link = f; unmarked = refl; size = s; frames = z } })
        | inr was ↦ W.headers n y was
      ])
      (λ n y o k g h t u. elim (which n y g) [
        | inl is ↦ elim (cases_eq k l) [
          | inl e ↦ subst (λ (j : ℕ). is_joined_at (p.change j).step ≡ true) (sym e) joined
          | inr d ↦
              let v : is_for (end_of_link x.cast o k) r.state ≡ true = subst (λ (a : HeaderRecord). is_for (end_of_link x.cast o k) a.state ≡ true) (sym is) u in
              let z : true ≡ false = sym v ∙ beside k o h d in
              absurd cc
        ]
        | inr was ↦ W.tunnelled n y o k was h t u
      ])
      numbers_more R S

-- ---- both suppliers

for_none : (key : PortKey) (n : ℕ) (q : Port) (peer : PortKey) → same_key q.key key ≡ false → same_key peer key ≡ false → is_for key (tunnel_header n q peer) ≡ false
for_none key n q peer e f = rw (e, f) refl

module _ (x : PlayCast) (recent : ℕ) (p : Play) (w : World) (W : IsPlayWorld x recent p w) (l : ℕ) (b : l < links_of x.cast) (C : CanAct (x.cast).layout p (Act.Supply l)) (q : Port) where
  off_output : (k : ℕ) → k < links_of x.cast → k ≢ l → (s : Bool) → same_key (output_at x.cast l) (end_of_link x.cast s k) ≡ false
  off_output k h d true = key_not (output_at x.cast l) (output_at x.cast k) (λ u. d (sym ((W.cast_is).outputs l k b h u)))
  off_output k h d false = key_not (output_at x.cast l) (input_at x.cast k) ((W.cast_is).beside l k b h)

  off_input : (k : ℕ) → k < links_of x.cast → k ≢ l → (s : Bool) → same_key (input_at x.cast l) (end_of_link x.cast s k) ≡ false
  off_input k h d true = key_not (input_at x.cast l) (output_at x.cast k) (λ u. (W.cast_is).beside k l h b (sym u))
  off_input k h d false = key_not (input_at x.cast l) (input_at x.cast k) (λ u. d (sym ((W.cast_is).inputs l k b h u)))

  abbrev to : PortKey → World
  to peer = record w { headers = w.headers ++ new_header w.made q peer ∷ []; made = w.made + 1 }

  by_output : ((x.cast).layout).by_output l ≡ true → q.key ≡ output_at x.cast l → is_input_port q ≡ false → q.setting.definition.size ≡ (x.cast).size l → Sound (to (input_at x.cast l))
      → IsPlayWorld x recent (acted (x.cast).layout (Act.Supply l) p) (to (input_at x.cast l))
  by_output by k d s S =
      let y : LinkEnds = ends_of x.cast (work_in w.components) p l in
      let peer : PortKey = input_at x.cast l in
      let n = next_unmade w W.sound in
      let own = listed w.made q peer false d in
      let todo : in_todo (output_at x.cast l) (tunnel_header w.made q peer) ≡ true = subst (λ (z : PortKey). in_todo z (tunnel_header w.made q peer) ≡ true) k own.0 in
      let done : in_done (output_at x.cast l) (tunnel_header w.made q peer) ≡ false = subst (λ (z : PortKey). in_done z (tunnel_header w.made q peer) ≡ false) k own.1 in
      let off : same_key q.key (input_at x.cast l) ≡ false = ap (λ (z : PortKey). same_key z (input_at x.cast l)) k ∙ keys_apart (output_at x.cast l) (input_at x.cast l) (W.wired l b).apart in
      let other = unlisted w.made q peer (input_at x.cast l) off in
      let here = made_ready y w.headers (new_header w.made q peer) n (unmade_worked w w.made (input_at x.cast l) W.sound n) todo done other.0 other.1 in
      supply_plays x recent p w W l b C q peer
      (subst (λ (z : Bool). link_view y (w.headers ++ new_header w.made q peer ∷ []) ≡ supplied z (link_view y w.headers)) (sym by) here)
      (λ j h e. (ap (λ (z : PortKey). same_key z (output_at x.cast j)) k ∙ off_output j h e true, ap (λ (z : PortKey). same_key z (input_at x.cast j)) k ∙ off_output j h e false))
      (λ j o h e. for_none (end_of_link x.cast o j) w.made q peer (ap (λ (z : PortKey). same_key z (end_of_link x.cast o j)) k ∙ off_output j h e o) (off_input j h e o))
      (for_port (output_at x.cast l) (tunnel_header w.made q peer) k) s S

  by_input : ((x.cast).layout).by_output l ≡ false → q.key ≡ input_at x.cast l → is_input_port q ≡ true → q.setting.definition.size ≡ (x.cast).size l → Sound (to (output_at x.cast l))
      → IsPlayWorld x recent (acted (x.cast).layout (Act.Supply l) p) (to (output_at x.cast l))
  by_input by k d s S =
      let y : LinkEnds = ends_of x.cast (work_in w.components) p l in
      let peer : PortKey = output_at x.cast l in
      let n = next_unmade w W.sound in
      let own = listed w.made q peer true d in
      let todo : in_todo (input_at x.cast l) (tunnel_header w.made q peer) ≡ false = subst (λ (z : PortKey). in_todo z (tunnel_header w.made q peer) ≡ false) k own.0 in
      let done : in_done (input_at x.cast l) (tunnel_header w.made q peer) ≡ true = subst (λ (z : PortKey). in_done z (tunnel_header w.made q peer) ≡ true) k own.1 in
      let off : same_key q.key (output_at x.cast l) ≡ false = ap (λ (z : PortKey). same_key z (output_at x.cast l)) k ∙ keys_apart (input_at x.cast l) (output_at x.cast l) (λ e. (W.wired l b).apart (sym e)) in
      let other = unlisted w.made q peer (output_at x.cast l) off in
      let here = made_spent y w.headers (new_header w.made q peer) n (unmade_worked w w.made (input_at x.cast l) W.sound n) other.0 other.1 todo done in
      supply_plays x recent p w W l b C q peer
      (subst (λ (z : Bool). link_view y (w.headers ++ new_header w.made q peer ∷ []) ≡ supplied z (link_view y w.headers)) (sym by) here)
      (λ j h e. (ap (λ (z : PortKey). same_key z (output_at x.cast j)) k ∙ off_input j h e true, ap (λ (z : PortKey). same_key z (input_at x.cast j)) k ∙ off_input j h e false))
      (λ j o h e. for_none (end_of_link x.cast o j) w.made q peer (ap (λ (z : PortKey). same_key z (end_of_link x.cast o j)) k ∙ off_input j h e o) (off_output j h e o))
      (for_peer (output_at x.cast l) (tunnel_header w.made q peer) refl) s S

  pub by_either : (by : Bool) → ((x.cast).layout).by_output l ≡ by → q.key ≡ end_of_link x.cast by l → is_input_port q ≡ not by → q.setting.definition.size ≡ (x.cast).size l → Sound (to (end_of_link x.cast (not by) l))
      → IsPlayWorld x recent (acted (x.cast).layout (Act.Supply l) p) (to (end_of_link x.cast (not by) l))
  by_either true by k d s S = by_output by k d s S
  by_either false by k d s S = by_input by k d s S
