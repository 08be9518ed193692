-- A sound world has its census: each header that is made stands exactly once.
use Rattle.std.proofs.Common.{◌≡◌, ◌≢◌, inl, inr, ℕ, zero, suc, ◌+◌, ◌≤◌, Bool, true, ◌&&◌, nat_eq, List, [], ◌∷◌, ◌++◌, slice_get, is_some, Some, None, refl, sym, ◌∙◌, ap, eqb-true, eq-eqb, ne_eqb, arith}
use Rattle.std.proofs.lemmas.Bool.{eqb-false}
use Rattle.il_machine.specs.declared.port.PortKey.{PortKey}
use Rattle.il_machine.specs.declared.port.Port.{Port}
use Rattle.il_machine.specs.declared.header.Owner.{Owner}
use Rattle.il_machine.specs.declared.header.Owner.TheVariants as owners
use Rattle.il_machine.specs.declared.header.Queue.{Queue}
use Rattle.il_machine.specs.declared.header.Queue.TheVariants.{Out, Todo, Done}
use Rattle.il_machine.specs.Lists.{holds_at}
use Rattle.il_machine.specs.World.{Component, HeaderRecord, World, number_of, ports_of}
use Rattle.il_machine.specs.Headers.{Seen, seen, find_header, numbers, has_number, is_state, is_client, is_for, is_todo, is_done, in_todo, in_done, is_notice_of, is_work_of, same_key, weight, Once}
use Rattle.il_machine.specs.Census.{note_numbers, work_numbers, in_ports, in_components, times, Census, HasRoom}
use Rattle.il_machine.specs.Room.{used}
use Rattle.il_machine.specs.Sound.{Sound, IsMadeFor, IsOwnedSo, port_at}
use Rattle.machine_laws.proofs.Every.{from_places}
use Rattle.machine_laws.proofs.Finding.{either}
use Rattle.machine_laws.proofs.Keys.{key_is, key_same, for_which, there_is, none_or_some}
use Rattle.machine_laws.proofs.Lookups.{same_place, has_port, port_parts}
use Rattle.machine_laws.proofs.Ties.{other_side, made_peer}
use Rattle.machine_laws.proofs.Parts.{Parts, ports_in_list, parts_of}
use Rattle.machine_laws.proofs.Headers.{noticed_found, noticed_none, worked_found, worked_none, worker_there}
use Rattle.machine_laws.proofs.Listed.{times_cons, times_append, times_else}

-- ---- a number among those of the headers that pass

pub times_numbers : (test : HeaderRecord → Bool) (n : ℕ) (hs : List HeaderRecord) → Once hs → times n (numbers test hs) ≡ weight (holds_at (find_header n hs) test)
times_numbers test n [] o = refl
times_numbers test n (x ∷ hs) o =
    let i = times_numbers test n hs o.1 in
    either (has_number n x)
    (λ t.
    let e : x.state.number ≡ n = eqb-true _ _ t in
    let z : find_header n hs ≡ None = rw (← e) o.0 in
    let y : times n (numbers test hs) ≡ 0 = i ∙ rw z refl in
    either (test x)
    (λ u. let s = times_cons n x.state.number (numbers test hs) in let w : weight (nat_eq x.state.number n) ≡ 1 = rw t refl in rw (u, t, u) (omega arith))
    (λ u. rw (u, t, u) y))
    (λ f. either (test x)
    (λ u. rw (u, f) (times_else n x.state.number (numbers test hs) (eqb-false _ _ f) ∙ i))
    (λ u. rw (u, f) i))

-- ---- a number among those of many ports and components

abbrev port_times : ℕ → Seen → Port → ℕ
port_times n s p = times n (s.todo p.key) + times n (s.done p.key)

abbrev component_times : ℕ → Seen → Component → ℕ
component_times n s c = times n (in_ports s (ports_of c)) + times n (note_numbers c.notes) + times n (work_numbers c.work)

of_ports : (n : ℕ) (s : Seen) (p : Port) (ps : List Port) → times n (in_ports s (p ∷ ps)) ≡ port_times n s p + times n (in_ports s ps)
of_ports n s p ps = let a = times_append n (s.todo p.key ++ s.done p.key) (in_ports s ps) in let b = times_append n (s.todo p.key) (s.done p.key) in omega arith

of_components : (n : ℕ) (s : Seen) (c : Component) (cs : List Component) → times n (in_components s (c ∷ cs)) ≡ component_times n s c + times n (in_components s cs)
of_components n s c cs =
    let a = times_append n (in_ports s (ports_of c) ++ note_numbers c.notes ++ work_numbers c.work) (in_components s cs) in
    let b = times_append n (in_ports s (ports_of c) ++ note_numbers c.notes) (work_numbers c.work) in
    let d = times_append n (in_ports s (ports_of c)) (note_numbers c.notes) in
    omega arith

ports_none : (n : ℕ) (s : Seen) (ps : List Port) → ((k : ℕ) (p : Port) → slice_get ps k ≡ Some p → port_times n s p ≡ 0) → times n (in_ports s ps) ≡ 0
ports_none n s [] h = refl
ports_none n s (p ∷ ps) h = let a = of_ports n s p ps in let z = h 0 p refl in let i = ports_none n s ps (λ k q e. h (suc k) q e) in omega arith

ports_one : (n : ℕ) (s : Seen) (ps : List Port) (k : ℕ) (p : Port) → slice_get ps k ≡ Some p → port_times n s p ≡ 1 → ((j : ℕ) (q : Port) → slice_get ps j ≡ Some q → j ≢ k → port_times n s q ≡ 0) → times n (in_ports s ps) ≡ 1
ports_one n s [] k p e o h = absurd cc
ports_one n s (x ∷ ps) zero p e o h =
    let a = of_ports n s x ps in
    let is : x ≡ p = cc in
    let y : port_times n s x ≡ 1 = rw is o in
    let i = ports_none n s ps (λ j q f. h (suc j) q f (λ z. omega arith)) in
    omega arith
ports_one n s (x ∷ ps) (suc k) p e o h =
    let a = of_ports n s x ps in
    let y = h 0 x refl (λ z. omega arith) in
    let i = ports_one n s ps k p e o (λ j q f d. h (suc j) q f (λ z. d (omega arith))) in
    omega arith

components_none : (n : ℕ) (s : Seen) (cs : List Component) → ((k : ℕ) (c : Component) → slice_get cs k ≡ Some c → component_times n s c ≡ 0) → times n (in_components s cs) ≡ 0
components_none n s [] h = refl
components_none n s (c ∷ cs) h = let a = of_components n s c cs in let z = h 0 c refl in let i = components_none n s cs (λ k d e. h (suc k) d e) in omega arith

components_one : (n : ℕ) (s : Seen) (cs : List Component) (k : ℕ) (c : Component) → slice_get cs k ≡ Some c → component_times n s c ≡ 1 → ((j : ℕ) (d : Component) → slice_get cs j ≡ Some d → j ≢ k → component_times n s d ≡ 0)
    → times n (in_components s cs) ≡ 1
components_one n s [] k c e o h = absurd cc
components_one n s (x ∷ cs) zero c e o h =
    let a = of_components n s x cs in
    let is : x ≡ c = cc in
    let y : component_times n s x ≡ 1 = rw is o in
    let i = components_none n s cs (λ j d f. h (suc j) d f (λ z. omega arith)) in
    omega arith
components_one n s (x ∷ cs) (suc k) c e o h =
    let a = of_components n s x cs in
    let y = h 0 x refl (λ z. omega arith) in
    let i = components_one n s cs k c e o (λ j d f b. h (suc j) d f (λ z. b (omega arith))) in
    omega arith

-- ---- one header

in_queue : (p : Queue) (b : Bool) → p ≢ Out → weight (is_todo p && b) + weight (is_done p && b) ≡ weight b
in_queue Out b h = absurd (h refl)
in_queue Todo b h = omega arith
in_queue Done b h = omega arith

notice_weighs : (k m : ℕ) (owner : Owner) → owner ≡ owners.Notice k → m ≡ k → weight (is_notice_of m owner) ≡ 1
notice_weighs k m owner o e = rw (o, e, eq-eqb k k refl) refl

notice_away : (k m : ℕ) (owner : Owner) → owner ≡ owners.Notice k → k ≢ m → weight (is_notice_of m owner) ≡ 0
notice_away k m owner o a = rw (o, ne_eqb k m a) refl

work_weighs : (k m : ℕ) (owner : Owner) → owner ≡ owners.Work k → m ≡ k → weight (is_work_of m owner) ≡ 1
work_weighs k m owner o e = rw (o, e, eq-eqb k k refl) refl

work_away : (k m : ℕ) (owner : Owner) → owner ≡ owners.Work k → k ≢ m → weight (is_work_of m owner) ≡ 0
work_away k m owner o a = rw (o, ne_eqb k m a) refl

no_weight_apart : (key : PortKey) (q : Port) → key ≢ q.key → weight (same_key key q.key) ≡ 0
no_weight_apart key q a = either (same_key key q.key) (λ t. absurd (a (key_is key q.key t))) (λ f. rw f refl)

module _ (cs : List Component) (hs : List HeaderRecord) (numbered made : ℕ) (P : Parts cs hs numbered made) (n : ℕ) where
  port_count : (r : HeaderRecord) (p : Port) → find_header n hs ≡ Some r → port_times n (seen hs) p ≡ weight (in_todo p.key r.state) + weight (in_done p.key r.state)
  port_count r p f =
      let a : times n ((seen hs).todo p.key) ≡ weight (in_todo p.key r.state) = times_numbers (is_state (in_todo p.key)) n hs P.once ∙ rw f refl in
      let b : times n ((seen hs).done p.key) ≡ weight (in_done p.key r.state) = times_numbers (is_state (in_done p.key)) n hs P.once ∙ rw f refl in
      omega arith

  no_port_count : (p : Port) → find_header n hs ≡ None → port_times n (seen hs) p ≡ 0
  no_port_count p f =
      let a : times n ((seen hs).todo p.key) ≡ 0 = times_numbers (is_state (in_todo p.key)) n hs P.once ∙ rw f refl in
      let b : times n ((seen hs).done p.key) ≡ 0 = times_numbers (is_state (in_done p.key)) n hs P.once ∙ rw f refl in
      omega arith

  out_count : (r : HeaderRecord) (p : Port) → find_header n hs ≡ Some r → r.state.queue ≡ Out → port_times n (seen hs) p ≡ 0
  out_count r p f o = port_count r p f ∙ rw o refl

  note_count : (i : ℕ) (c : Component) (r : HeaderRecord) → slice_get cs i ≡ Some c → find_header n hs ≡ Some r → times n (note_numbers c.notes) ≡ weight (is_notice_of (number_of c) r.state.owner)
  note_count i c r t f = P.noted i c t n ∙ ap weight (noticed_found (number_of c) n hs r f)

  work_count : (i : ℕ) (c : Component) (r : HeaderRecord) → slice_get cs i ≡ Some c → find_header n hs ≡ Some r → times n (work_numbers c.work) ≡ weight (is_work_of (number_of c) r.state.owner)
  work_count i c r t f = (P.works).claimed i c t n ∙ ap weight (worked_found (number_of c) n hs r f)

  -- a header that isn't there
  count_none : find_header n hs ≡ None → times n (in_components (seen hs) cs) ≡ 0
  count_none f = components_none n (seen hs) cs (λ i c t.
      let a = ports_none n (seen hs) (ports_of c) (λ k p e. no_port_count p f) in
      let b : times n (note_numbers c.notes) ≡ 0 = P.noted i c t n ∙ ap weight (noticed_none (number_of c) n hs f) in
      let d : times n (work_numbers c.work) ≡ 0 = (P.works).claimed i c t n ∙ ap weight (worked_none (number_of c) n hs f) in
      omega arith)

  -- a header of the client
  count_client : (r : HeaderRecord) → find_header n hs ≡ Some r → r.state.owner ≡ owners.Client → times n (in_components (seen hs) cs) ≡ 0
  count_client r f o = components_none n (seen hs) cs (λ i c t.
      let O : IsOwnedSo r.state owners.Client = rw o at (P.tied.placed n r f).owner in
      let a = ports_none n (seen hs) (ports_of c) (λ k p e. out_count r p f O.0) in
      let b : times n (note_numbers c.notes) ≡ 0 = note_count i c r t f ∙ rw o refl in
      let d : times n (work_numbers c.work) ≡ 0 = work_count i c r t f ∙ ap (λ (x : Owner). weight (is_work_of (number_of c) x)) o in
      omega arith)

  -- a header of a note
  count_notice : (r : HeaderRecord) (k : ℕ) → find_header n hs ≡ Some r → r.state.owner ≡ owners.Notice k → times n (in_components (seen hs) cs) ≡ 1
  count_notice r k f o =
      let S = P.tied.placed n r f in
      let O : IsOwnedSo r.state (owners.Notice k) = rw o at S.owner in
      let p = there_is (port_at r.state.port cs) (IsMadeFor r.state.peer) S.port in
      let h = has_port r.state.port cs p.0 p.1 in
      let num : number_of h.component ≡ k = h.number ∙ O.2 in
      let lists : (c : Component) → times n (in_ports (seen hs) (ports_of c)) ≡ 0 = λ c. ports_none n (seen hs) (ports_of c) (λ x q e. out_count r q f O.0) in
      components_one n (seen hs) cs h.place h.component h.there
      (let a = lists h.component in
      let w : weight (is_notice_of (number_of h.component) r.state.owner) ≡ 1 = notice_weighs k (number_of h.component) r.state.owner o num in
      let b = note_count h.place h.component r h.there f in
      let d : times n (work_numbers (h.component).work) ≡ 0 = work_count h.place h.component r h.there f ∙ ap (λ (x : Owner). weight (is_work_of (number_of h.component) x)) o in
      omega arith)
      (λ j d t apart.
      let a = lists d in
      let away : k ≢ number_of d = λ e. apart (same_place 0 numbered j h.place cs d h.component P.rising t h.there (sym e ∙ sym num)) in
      let w : weight (is_notice_of (number_of d) r.state.owner) ≡ 0 = notice_away k (number_of d) r.state.owner o away in
      let b = note_count j d r t f in
      let x : times n (work_numbers d.work) ≡ 0 = work_count j d r t f ∙ ap (λ (x : Owner). weight (is_work_of (number_of d) x)) o in
      omega arith)

  -- a header of a work
  count_work : (r : HeaderRecord) (k : ℕ) → find_header n hs ≡ Some r → r.state.owner ≡ owners.Work k → times n (in_components (seen hs) cs) ≡ 1
  count_work r k f o =
      let O : IsOwnedSo r.state (owners.Work k) = rw o at (P.tied.placed n r f).owner in
      let h = worker_there cs hs numbered made P k n r f o in
      let lists : (c : Component) → times n (in_ports (seen hs) (ports_of c)) ≡ 0 = λ c. ports_none n (seen hs) (ports_of c) (λ x q e. out_count r q f O.0) in
      let notes : (i : ℕ) (c : Component) → slice_get cs i ≡ Some c → times n (note_numbers c.notes) ≡ 0 = λ i c t. note_count i c r t f ∙ ap (λ (x : Owner). weight (is_notice_of (number_of c) x)) o in
      components_one n (seen hs) cs h.0 h.1 h.2
      (let a = lists h.1 in
      let b = notes h.0 h.1 h.2 in
      let w : weight (is_work_of (number_of h.1) r.state.owner) ≡ 1 = work_weighs k (number_of h.1) r.state.owner o h.3 in
      let d = work_count h.0 h.1 r h.2 f in
      omega arith)
      (λ j d t apart.
      let a = lists d in
      let b = notes j d t in
      let away : k ≢ number_of d = λ e. apart (same_place 0 numbered j h.0 cs d h.1 P.rising t h.2 (sym e ∙ sym h.3)) in
      let w : weight (is_work_of (number_of d) r.state.owner) ≡ 0 = work_away k (number_of d) r.state.owner o away in
      let x = work_count j d r t f in
      omega arith)

  -- the port that has a header
  owner_port : (r : HeaderRecord) (key : PortKey) → find_header n hs ≡ Some r → is_for key r.state ≡ true → (p : Port) × (port_at key cs ≡ Some p)
  owner_port r key f is =
      let S = P.tied.placed n r f in
      let p = there_is (port_at r.state.port cs) (IsMadeFor r.state.peer) S.port in
      elim (for_which key r.state is) [
        | inl h ↦ (p.0, ap (λ (x : PortKey). port_at x cs) (sym h) ∙ p.1)
        | inr h ↦
            let k = made_peer r.state.peer key p.0 p.2 h in
            let q = other_side (ports_in_list cs) hs r.state.port p.0 k.0 P.tied p.1 k.1 in
            (q.0, ap (λ (x : PortKey). port_at x cs) (sym k.2) ∙ q.1)
      ]

  count_port : (r : HeaderRecord) (key : PortKey) → find_header n hs ≡ Some r → r.state.owner ≡ owners.Port key → times n (in_components (seen hs) cs) ≡ 1
  count_port r key f o =
      let S = P.tied.placed n r f in
      let O : IsOwnedSo r.state (owners.Port key) = rw o at S.owner in
      let p = owner_port r key f O.0 in
      let h = has_port key cs p.0 p.1 in
      let at : (q : Port) → port_times n (seen hs) q ≡ weight (same_key key q.key) = λ q.
      let a = port_count r q f in
      let b : weight (in_todo q.key r.state) + weight (in_done q.key r.state) ≡ weight (same_key key q.key) = rw o (in_queue r.state.queue (same_key key q.key) O.1) in
      a ∙ b in
      let notes : (i : ℕ) (c : Component) → slice_get cs i ≡ Some c → times n (note_numbers c.notes) ≡ 0 = λ i c t. note_count i c r t f ∙ rw o refl in
      let works : (i : ℕ) (c : Component) → slice_get cs i ≡ Some c → times n (work_numbers c.work) ≡ 0 = λ i c t. work_count i c r t f ∙ ap (λ (x : Owner). weight (is_work_of (number_of c) x)) o in
      components_one n (seen hs) cs h.place h.component h.there
      (let a = notes h.place h.component h.there in
      let x = works h.place h.component h.there in
      let b = ports_one n (seen hs) (ports_of h.component) key.port p.0 h.port
      (at p.0 ∙ rw (P.tied.keyed key p.0 p.1, key_same key) refl)
      (λ j q e apart. at q ∙ no_weight_apart key q (λ s. apart (ap (λ x. x.port) (sym (port_parts h.component j q e).key) ∙ ap (λ x. x.port) (sym s)))) in
      omega arith)
      (λ j d t apart.
      let a = notes j d t in
      let x = works j d t in
      let b = ports_none n (seen hs) (ports_of d) (λ k q e. at q ∙ no_weight_apart key q (λ s.
      apart (same_place 0 numbered j h.place cs d h.component P.rising t h.there
      (ap (λ x. x.component) (sym (port_parts d k q e).key) ∙ (ap (λ x. x.component) (sym s) ∙ sym h.number))))) in
      omega arith)

  -- each number stands as often as a header of it is there
  count_all : times n (in_components (seen hs) cs ++ numbers (λ r. is_client r.state.owner) hs) ≡ weight (is_some ((seen hs).header n))
  count_all =
      let a = times_append n (in_components (seen hs) cs) (numbers (λ r. is_client r.state.owner) hs) in
      let b = times_numbers (λ r. is_client r.state.owner) n hs P.once in
      elim (none_or_some (find_header n hs)) [
        | inl f ↦
            let c = count_none f in
            let d : weight (holds_at (find_header n hs) (λ r. is_client r.state.owner)) ≡ 0 = rw f refl in
            let e : weight (is_some ((seen hs).header n)) ≡ 0 = rw f refl in
            omega arith
        | inr f ↦
            let e : weight (is_some ((seen hs).header n)) ≡ 1 = rw f.1 refl in
            let d : weight (holds_at (find_header n hs) (λ r. is_client r.state.owner)) ≡ weight (is_client (f.0).state.owner) = rw f.1 refl in
            let c = by_owner f.0 (f.0).state.owner f.1 refl in
            omega arith
      ]
    where
      by_owner : (r : HeaderRecord) (owner : Owner) → find_header n hs ≡ Some r → r.state.owner ≡ owner → times n (in_components (seen hs) cs) + weight (is_client owner) ≡ 1
      by_owner r owners.Client f o = let c = count_client r f o in omega arith
      by_owner r (owners.Port key) f o = let c = count_port r key f o in omega arith
      by_owner r (owners.Notice k) f o = let c = count_notice r k f o in omega arith
      by_owner r (owners.Work k) f o = let c = count_work r k f o in omega arith

-- A sound world has its census, and no component has taken or reserved more places than there are.
pub sound_census : (w : World) → Sound w → Census w × HasRoom w
sound_census w S =
    let P = parts_of w S in (
      record { each = λ n. count_all w.components w.headers w.numbered w.made P n; once = S.once },
      from_places (λ c. used c ≤ 256) w.components (λ i c t. (P.components i c t).room),
    )
