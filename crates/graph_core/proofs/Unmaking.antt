-- The headers in notes are those that are in no list, and they are unmade one after the other.
use Rattle.std.proofs.Common.{◌≡◌, ◌≢◌, inl, inr, ℕ, zero, suc, ◌+◌, ◌≤◌, Bool, true, false, not, ◌&&◌, nat_eq, is_none, is_some, List, [], ◌∷◌, ◌++◌, length, map, drop, All, Option, Some, None, option_map, MatchOption, slice_get, if◌then◌else◌, refl, sym, ◌∙◌, ap, subst, eq-eqb, ne_eqb, arith}
use Rattle.std.specs.List.{list_all}
use Rattle.std.specs.Prelude.{IsSome}
use Rattle.std.proofs.lemmas.Bool.Decides.{nat_tests}
use Rattle.std.proofs.lemmas.List.Sums.{AllPass-from_list_all, list_all-from_AllPass}
use Rattle.std.proofs.lemmas.Option.{slice_get-map}
use Rattle.std.proofs.lemmas.List.{append-nil, append_assoc}
use Rattle.il_machine.specs.declared.answer.Progress.{Progress}
use Rattle.il_machine.specs.declared.header.Owner.{Owner}
use Rattle.il_machine.specs.declared.header.Owner.TheVariants as owners
use Rattle.il_machine.specs.declared.header.Queue.{Queue}
use Rattle.il_machine.specs.declared.header.Queue.TheVariants.{Out, Todo, Done}
use Rattle.il_machine.specs.declared.header.HeaderState.{HeaderState}
use Rattle.il_machine.specs.World.{Component, HeaderRecord, Work, World, number_of}
use Rattle.il_machine.specs.Lists.{holds_at}
use Rattle.il_machine.specs.Headers.{Seen, seen, find_header, is_notice, is_notice_of, is_work_of, state_of, weight}
use Rattle.il_machine.specs.Buffers.{held}
use Rattle.il_machine.specs.Census.{note_numbers, times, work_numbers}
use Rattle.il_machine.specs.Look.{Look}
use Rattle.il_machine.specs.Stock.{Stocked, header_unmade}
use Rattle.il_machine.specs.Sound.{IsMadeFor, IsOwnedSo, port_at}
use Rattle.il_machine.specs.Whole.{Noticed, IsNoticed}
use Rattle.machine_laws.proofs.Every.{at_place, from_places}
use Rattle.machine_laws.proofs.Headers.{noticed_found, noticed_none, worked_found, worker_there}
use Rattle.machine_laws.proofs.Keys.{none_or_some, there_is}
use Rattle.machine_laws.proofs.Listed.{times_append, times_cons}
use Rattle.machine_laws.proofs.Lookups.{same_place, has_port}
use Rattle.machine_laws.proofs.Parts.{Parts, parts_of}
use Rattle.header_core.specs.BufferHeader.{BufferHeader}
use Rattle.note_queues.specs.declared.taken.Call.{Call}
use Rattle.note_queues.specs.declared.taken.Taken.{Taken}
use Rattle.note_queues.specs.declared.taken.Taken.TheVariants.{Told, EmptyDone, FillDone}
use Rattle.note_queues.specs.declared.taken.Took.TheVariants as tooks
use Rattle.note_queues.specs.Queues.{note_of, took_from}
use Rattle.il_component.specs.Entries.{Entry, component_of, held_in, noticed_of}
use Rattle.port_stock.specs.Kept.{is_waiting, stocked}
use Rattle.port_stock.specs.Conditions.{AllInside, AllWait, IsHeaderOf, IsOutside, is_inside}
use Rattle.port_stock.specs.Entries.{Each}
use Rattle.graph_core.specs.Entries.{Entries, components_of, held_by, kept, look_of, noticed_in}
use Rattle.graph_core.specs.Ending.{AreOutside, IsAllIn, IsHeldOut, OnHeader, held_times, is_in, is_outside, without_taken}
use Rattle.graph_core.specs.Standing.{SoundWorld}
use Rattle.graph_core.proofs.Leaving.{some_client}
use Rattle.graph_core.proofs.Replacing.{there}
use Rattle.graph_core.proofs.Stepping.{seen_of}

-- ---- lists

module _ {A : Type 0} (P : A → Type 0) where
  pub each_from : (xs : List A) → ((i : ℕ) (x : A) → slice_get xs i ≡ Some x → P x) → Each P xs
  each_from [] h = tt
  each_from (x ∷ xs) h = (h 0 x refl, each_from xs (λ i y e. h (suc i) y e))

  pub each_left : (xs ys : List A) → Each P (xs ++ ys) → Each P xs
  each_left [] ys h = tt
  each_left (x ∷ xs) ys h = (h.0, each_left xs ys h.1)

  each_right : (xs ys : List A) → Each P (xs ++ ys) → Each P ys
  each_right [] ys h = h
  each_right (x ∷ xs) ys h = each_right xs ys h.1

  each_both : (xs ys : List A) → Each P xs → Each P ys → Each P (xs ++ ys)
  each_both [] ys h k = k
  each_both (x ∷ xs) ys h k = (h.0, each_both xs ys h.1 k)

pub each_last : {A : Type 0} (P : A → Type 0) (xs : List A) (x : A) → Each P (xs ++ x ∷ []) → P x
each_last P xs x h = (each_right P xs (x ∷ []) h).0

each_map : {A : Type 0} (P Q R : A → Type 0) (xs : List A) → ((x : A) → P x → Q x → R x) → Each P xs → Each Q xs → Each R xs
each_map P Q R [] f h k = tt
each_map P Q R (x ∷ xs) f h k = (f x h.0 k.0, each_map P Q R xs f h.1 k.1)

times_both : (n : ℕ) (xs ys : List Noticed) → held_times n (xs ++ ys) ≡ held_times n xs + held_times n ys
times_both n [] ys = omega arith
times_both n (x ∷ xs) ys = let i = times_both n xs ys in omega arith

-- ---- one header is unmade

weight_none : (b : Bool) → weight b ≡ 0 → b ≡ false
weight_none true h = absurd (omega arith)
weight_none false h = refl

weight_most : (b : Bool) → weight b ≤ 1
weight_most true = omega arith
weight_most false = omega arith

none_named : (n : ℕ) (xs : List Noticed) → held_times n xs ≡ 0 → Each (λ x. nat_eq x.held.number n ≡ false) xs
none_named n [] h = tt
none_named n (x ∷ xs) h = (weight_none (nat_eq x.held.number n) (omega arith), none_named n xs (omega arith))

abbrev KnownAs : Noticed → HeaderState → Type 0
KnownAs h x = (x.queue ≡ Out) × (h.held.size ≡ x.size) × (h.client_memory ≡ x.client_memory)

still_held : (n : ℕ) (s : Stocked) (h : Noticed) → IsHeldOut s h → nat_eq h.held.number n ≡ false → IsHeldOut (header_unmade n s) h
still_held n s h k e =
    let P : Bool → Type 0 = λ b. MatchOption (if b then None else s.headers.header h.held.number) ⊥ (KnownAs h) in
    (k.0, subst P (sym e) k.1)

-- of those that are left, each number stands once more
left_once : (n m : ℕ) (s : Stocked) (xs ys : List Noticed) (h : Noticed) → h.held.number ≡ n → ((k : ℕ) → held_times k (xs ++ h ∷ ys) ≡ weight (holds_at (s.headers.header k) is_outside))
    → held_times m (xs ++ ys) ≡ weight (holds_at ((header_unmade n s).headers.header m) is_outside)
left_once n m s xs ys h is once =
    let a = times_both m xs (h ∷ ys) in
    let b = times_both m xs ys in
    let o = once m in
    elim (nat_eq m n) as (λ v. nat_eq m n ≡ v → held_times m (xs ++ ys) ≡ weight (holds_at (if v then None else s.headers.header m) is_outside)) [
      | true ↦ λ e.
          let same : nat_eq h.held.number m ≡ true = grind (arith, nat_tests) in
          let w : weight (nat_eq h.held.number m) ≡ 1 = rw same refl in
          let most = weight_most (holds_at (s.headers.header m) is_outside) in
          let goal : held_times m (xs ++ ys) ≡ 0 = omega arith in goal
      | false ↦ λ e.
          let other : nat_eq h.held.number m ≡ false = grind (arith, nat_tests) in
          let w : weight (nat_eq h.held.number m) ≡ 0 = rw other refl in
          omega arith
    ] refl

pub one_less : (s : Stocked) (xs ys : List Noticed) (h : Noticed) → AreOutside (xs ++ h ∷ ys) s → AreOutside (xs ++ ys) (header_unmade h.held.number s)
one_less s xs ys h A =
    let n = h.held.number in
    let once = λ (m : ℕ). left_once n m s xs ys h refl A.once in
    let gone : held_times n (xs ++ ys) ≡ 0 = once n ∙ ap (λ (b : Bool). weight (holds_at (if b then None else s.headers.header n) is_outside)) (eq-eqb n n refl) in
    let back = each_right (IsHeldOut s) xs (h ∷ ys) A.each in
    let there = each_both (IsHeldOut s) xs ys (each_left (IsHeldOut s) xs (h ∷ ys) A.each) back.1 in
    record {
      each = each_map (IsHeldOut s) (λ x. nat_eq x.held.number n ≡ false) (IsHeldOut (header_unmade n s)) (xs ++ ys) (λ x k e. still_held n s x k e) there (none_named n (xs ++ ys) gone);
      once = once;
    }

known_header : (o : Option HeaderState) (header : BufferHeader) → MatchOption o ⊥ (KnownAs (noticed_of header)) → MatchOption o ⊥ (λ x. (x.queue ≡ Out) × IsHeaderOf x header)
known_header None header k = k
known_header (Some x) header k = (k.0, record { size = k.1; memory = k.2 })

-- ---- the oldest note

pub taken_front : {C : Type 0} (client : Option C) (notes : List Taken) (call : Call C) → tooks.Call call ≡ took_from client notes → notes ≡ call.taken ∷ drop 1 notes
taken_front None notes call e = absurd cc
taken_front (Some x) [] call e = absurd cc
taken_front (Some x) (t ∷ ts) call e =
    let same : call ≡ record { client = x; taken = t } = cc in
    ap (λ (k : Call _). k.taken ∷ ts) (sym same)

pub outside_front : (s : Stocked) (xs : List Noticed) (t : Taken) (ts : List Taken) → AreOutside (xs ++ held_in (t ∷ ts)) s → OnHeader t (λ header. IsOutside header s)
outside_front s xs (Told event) ts A = tt
outside_front s xs (EmptyDone header) ts A = let k = (each_right (IsHeldOut s) xs (noticed_of header ∷ held_in ts) A.each).0 in (k.0, known_header (s.headers.header header.held.number) header k.1)
outside_front s xs (FillDone header) ts A = let k = (each_right (IsHeldOut s) xs (noticed_of header ∷ held_in ts) A.each).0 in (k.0, known_header (s.headers.header header.held.number) header k.1)

pub without_front : (s : Stocked) (xs : List Noticed) (t : Taken) (ts : List Taken) → AreOutside (xs ++ held_in (t ∷ ts)) s → AreOutside (xs ++ held_in ts) (without_taken t s)
without_front s xs (Told event) ts A = A
without_front s xs (EmptyDone header) ts A = one_less s xs (held_in ts) (noticed_of header) A
without_front s xs (FillDone header) ts A = one_less s xs (held_in ts) (noticed_of header) A

-- ---- none is left

waits_where : (p : Queue) → weight (not (is_waiting p)) ≡ 0 → is_waiting p ≡ true
waits_where Out h = absurd (omega arith)
waits_where Todo h = refl
waits_where Done h = refl

waits_at : (o : Option HeaderState) → weight (holds_at o is_outside) ≡ 0 → MatchOption o (Unit {0}) (λ x. is_waiting x.queue ≡ true)
waits_at None h = tt
waits_at (Some x) h = waits_where x.queue h

pub all_wait : (s : Stocked) → AreOutside [] s → AllWait s
all_wait s A = λ n. waits_at (s.headers.header n) (sym (A.once n))

module _ {C : Type 0} where
  pub noticed_last : (es : List (Entry C)) (e : Entry C) → noticed_in (es ++ e ∷ []) ≡ noticed_in es ++ held_by e
  noticed_last [] e = append-nil (held_by e)
  noticed_last (x ∷ es) e = ap (λ (hs : List Noticed). held_by x ++ hs) (noticed_last es e) ∙ sym (append_assoc (held_by x) (noticed_in es) (held_by e))

  pub none_left : (es : List (Entry C)) (s : Stocked) → length es ≡ 0 → AreOutside (noticed_in es) s → AreOutside [] s
  none_left [] s l A = A
  none_left (e ∷ es) s l A = absurd (omega arith)

-- ---- the headers in notes are those that are in no list

abbrev pub all_notes : List Component → List ℕ
all_notes [] = []
all_notes (c ∷ cs) = note_numbers c.notes ++ all_notes cs

held_numbers : (n : ℕ) (ts : List Taken) → held_times n (held_in ts) ≡ times n (note_numbers (map note_of ts))
held_numbers n [] = refl
held_numbers n (Told event ∷ ts) = held_numbers n ts
held_numbers n (EmptyDone header ∷ ts) = let i = held_numbers n ts in let t = times_cons n header.held.number (note_numbers (map note_of ts)) in omega arith
held_numbers n (FillDone header ∷ ts) = let i = held_numbers n ts in let t = times_cons n header.held.number (note_numbers (map note_of ts)) in omega arith

noticed_numbers : {C : Type 0} (n : ℕ) (es : List (Entry C)) → held_times n (noticed_in es) ≡ times n (all_notes (components_of es))
noticed_numbers n [] = refl
noticed_numbers n (e ∷ es) =
    let a = times_both n (held_by e) (noticed_in es) in
    let b = held_numbers n e.queues.notes in
    let i = noticed_numbers n es in
    let t = times_append n (note_numbers (component_of e).notes) (all_notes (components_of es)) in
    omega arith

notes_none : (n : ℕ) (cs : List Component) → ((k : ℕ) (c : Component) → slice_get cs k ≡ Some c → times n (note_numbers c.notes) ≡ 0) → times n (all_notes cs) ≡ 0
notes_none n [] h = refl
notes_none n (c ∷ cs) h = let a = times_append n (note_numbers c.notes) (all_notes cs) in let z = h 0 c refl in let i = notes_none n cs (λ k d e. h (suc k) d e) in omega arith

notes_one : (n : ℕ) (cs : List Component) (k : ℕ) (c : Component) → slice_get cs k ≡ Some c → times n (note_numbers c.notes) ≡ 1 → ((j : ℕ) (d : Component) → slice_get cs j ≡ Some d → j ≢ k → times n (note_numbers d.notes) ≡ 0)
    → times n (all_notes cs) ≡ 1
notes_one n [] k c e o h = absurd cc
notes_one n (x ∷ cs) zero c e o h =
    let a = times_append n (note_numbers x.notes) (all_notes cs) in
    let is : x ≡ c = cc in
    let y : times n (note_numbers x.notes) ≡ 1 = rw is o in
    let i = notes_none n cs (λ j d f. h (suc j) d f (λ z. omega arith)) in
    omega arith
notes_one n (x ∷ cs) (suc k) c e o h =
    let a = times_append n (note_numbers x.notes) (all_notes cs) in
    let y = h 0 x refl (λ z. omega arith) in
    let i = notes_one n cs k c e o (λ j d f b. h (suc j) d f (λ z. b (omega arith))) in
    omega arith

notice_weighs : (k m : ℕ) (owner : Owner) → owner ≡ owners.Notice k → m ≡ k → weight (is_notice_of m owner) ≡ 1
notice_weighs k m owner o e = rw (o, e, eq-eqb k k refl) refl

notice_away : (k m : ℕ) (owner : Owner) → owner ≡ owners.Notice k → k ≢ m → weight (is_notice_of m owner) ≡ 0
notice_away k m owner o a = rw (o, ne_eqb k m a) refl

in_list : (p : Queue) → p ≢ Out → weight (not (is_waiting p)) ≡ 0
in_list Out h = absurd (h refl)
in_list Todo h = refl
in_list Done h = refl

module _ (cs : List Component) (hs : List HeaderRecord) (numbered made : ℕ) (P : Parts cs hs numbered made) (n : ℕ) where
  note_count : (i : ℕ) (c : Component) (r : HeaderRecord) → slice_get cs i ≡ Some c → find_header n hs ≡ Some r → times n (note_numbers c.notes) ≡ weight (is_notice_of (number_of c) r.state.owner)
  note_count i c r t f = P.noted i c t n ∙ ap weight (noticed_found (number_of c) n hs r f)

  -- a header of a note stands in the notes of one component
  one_note : (r : HeaderRecord) (k : ℕ) → find_header n hs ≡ Some r → r.state.owner ≡ owners.Notice k → times n (all_notes cs) ≡ 1
  one_note r k f o =
      let S = P.tied.placed n r f in
      let O : IsOwnedSo r.state (owners.Notice k) = rw o at S.owner in
      let p = there_is (port_at r.state.port cs) (IsMadeFor r.state.peer) S.port in
      let h = has_port r.state.port cs p.0 p.1 in
      let num : number_of h.component ≡ k = h.number ∙ O.2 in
      notes_one n cs h.place h.component h.there (note_count h.place h.component r h.there f ∙ notice_weighs k (number_of h.component) r.state.owner o num)
      (λ j d t apart.
      let away : k ≢ number_of d = λ e. apart (same_place 0 numbered j h.place cs d h.component P.rising t h.there (sym e ∙ sym num)) in
      note_count j d r t f ∙ notice_away k (number_of d) r.state.owner o away)

  by_owner : (r : HeaderRecord) (owner : Owner) → find_header n hs ≡ Some r → r.state.owner ≡ owner → IsOwnedSo r.state owner → is_inside owner ≡ true → times n (all_notes cs) ≡ weight (is_outside r.state)
  by_owner r owners.Client f o O inside = absurd cc
  by_owner r (owners.Port key) f o O inside = notes_none n cs (λ i c t. note_count i c r t f ∙ ap (λ (x : Owner). weight (is_notice_of (number_of c) x)) o) ∙ sym (in_list r.state.queue O.1)
  by_owner r (owners.Work k) f o O inside = absurd cc
  by_owner r (owners.Notice k) f o O inside = one_note r k f o ∙ sym (ap (λ (p : Queue). weight (not (is_waiting p))) O.0)

  abbrev Inside : Option HeaderState → Type 0
  Inside o = MatchOption o (Unit {0}) (λ h. is_inside h.owner ≡ true)

  pub notes_once : Inside ((seen hs).header n) → times n (all_notes cs) ≡ weight (holds_at ((seen hs).header n) is_outside)
  notes_once inside = elim (none_or_some (find_header n hs)) [
    | inl f ↦ notes_none n cs (λ i c t. P.noted i c t n ∙ ap weight (noticed_none (number_of c) n hs f)) ∙ rw f refl
    | inr x ↦
        let r = x.0 in
        let f = x.1 in
        let i : is_inside r.state.owner ≡ true = subst Inside (ap (option_map state_of) f) inside in
        by_owner r r.state.owner f refl (P.tied.placed n r f).owner i ∙ rw f refl
  ]

out_by : (s : HeaderState) (owner : Owner) → IsOwnedSo s owner → is_notice owner ≡ true → s.queue ≡ Out
out_by s owners.Client O h = absurd cc
out_by s (owners.Port key) O h = absurd cc
out_by s (owners.Work k) O h = absurd cc
out_by s (owners.Notice k) O h = O.0

module _ {C : Type 0} (progress : C → Progress) (g : Entries C) (W : SoundWorld (kept progress g)) (A : AllInside (stocked g.stock)) where
  abbrev w : World
  w = W.world

  abbrev s : Stocked
  s = stocked g.stock

  P : Parts w.components w.headers w.numbered w.made
  P = parts_of w W.sound

  seen_is : seen w.headers ≡ s.headers
  seen_is = seen_of progress g w W.stands

  noticed_out : (h : Noticed) → IsNoticed w h → IsHeldOut s h
  noticed_out h N =
      let T = there_is (find_header h.held.number w.headers) (λ r. (held r ≡ h.held) × (is_notice r.state.owner ≡ true) × (r.state.client_memory ≡ h.client_memory)) N.1 in
      let r = T.0 in
      let out = out_by r.state r.state.owner (P.tied.placed h.held.number r T.1).owner T.2.1 in
      let size : h.held.size ≡ r.state.size = ap (λ x. x.size) (sym T.2.0) in
      let shown : s.headers.header h.held.number ≡ Some r.state = ap (λ (x : Seen). x.header h.held.number) (sym seen_is) ∙ ap (option_map state_of) T.1 in
      let key : w.key ≡ s.key = ap (λ (l : Look). l.key) W.stands.looks in
      let Q : Option HeaderState → Type 0 = λ o. MatchOption o ⊥ (KnownAs h) in
      (N.0 ∙ key, subst Q (sym shown) (out, size, sym T.2.2))

  pub all_outside : AreOutside (noticed_in g.entries) s
  all_outside =
      let cs : w.components ≡ components_of g.entries = ap (λ (l : Look). l.components) W.stands.looks in
      record {
        each = each_from (IsHeldOut s) (noticed_in g.entries) (λ i h e. noticed_out h (at_place (IsNoticed w) (noticed_in g.entries) i h W.stands.noticed e));
        once = λ n.
            let inside = subst (λ (x : Seen). Inside w.components w.headers w.numbered w.made P n (x.header n)) (sym seen_is) (A n) in
            let once = notes_once w.components w.headers w.numbered w.made P n inside in
            let here : times n (all_notes (components_of g.entries)) ≡ weight (holds_at (s.headers.header n) is_outside)
            = subst (λ (x : Seen). times n (all_notes (components_of g.entries)) ≡ weight (holds_at (x.header n) is_outside)) seen_is (subst (λ (ks : List Component). times n (all_notes ks) ≡ weight (holds_at ((seen w.headers).header n) is_outside)) cs once) in
            noticed_numbers n g.entries ∙ here;
      }

-- ---- nothing is out

work_weighs : (k m : ℕ) (owner : Owner) → owner ≡ owners.Work k → m ≡ k → weight (is_work_of m owner) ≡ 1
work_weighs k m owner o e = rw (o, e, eq-eqb k k refl) refl

no_work : (o : Option Work) → is_some o ≡ false → o ≡ None
no_work None h = refl
no_work (Some work) h = absurd cc

no_file : {A : Type 0} (o : Option A) → is_none o ≡ true → o ≡ None
no_file None h = refl
no_file (Some x) h = absurd cc

all_three : (a b c : Bool) → a ≡ true → b ≡ true → c ≡ true → (a && b && c) ≡ true
all_three a b c p q r = rw (p, q) r

both_are : (a b : Bool) → (a && b) ≡ true → (a ≡ true) × (b ≡ true)
both_are true b h = (refl, h)
both_are false b h = absurd cc

client_is : {A : Type 0} (o : Option A) → IsSome o → is_none o ≡ false
client_is None h = absurd cc
client_is (Some x) h = refl

mapped_some : {C : Type 0} (o : Option (Entry C)) (c : Component) → option_map component_of o ≡ Some c → (e : Entry C) × (o ≡ Some e) × (component_of e ≡ c)
mapped_some None c h = absurd cc
mapped_some (Some e) c h = (e, refl, cc)

true_not : (b : Bool) → not b ≡ true → b ≡ false
true_not true h = absurd cc
true_not false h = refl

module _ {C : Type 0} (progress : C → Progress) (g : Entries C) (W : SoundWorld (kept progress g)) where
  module _ (A : IsAllIn (look_of g)) where
    components_are : W.world.components ≡ components_of g.entries
    components_are = ap (λ (l : Look). l.components) W.stands.looks

    inside_by : (n : ℕ) (r : HeaderRecord) (owner : Owner) → find_header n W.world.headers ≡ Some r → (stocked g.stock).headers.header n ≡ Some r.state → r.state.owner ≡ owner → is_inside owner ≡ true
    inside_by n r owners.Client f shown o = absurd (A.headers n (rw shown o))
    inside_by n r (owners.Port key) f shown o = refl
    inside_by n r (owners.Notice k) f shown o = refl
    inside_by n r (owners.Work k) f shown o =
        let w = W.world in
        let P : Parts w.components w.headers w.numbered w.made = parts_of w W.sound in
        let h = worker_there w.components w.headers w.numbered w.made P k n r f o in
        let at : slice_get (components_of g.entries) h.0 ≡ Some h.1 = ap (λ (cs : List Component). slice_get cs h.0) (sym components_are) ∙ h.2 in
        let none = at_place (λ (c : Component). c.work ≡ None) (components_of g.entries) h.0 h.1 A.works at in
        let t : times n (work_numbers (h.1).work) ≡ weight (is_work_of (number_of h.1) r.state.owner) = (P.works).claimed h.0 h.1 h.2 n ∙ ap weight (worked_found (number_of h.1) n w.headers r f) in
        let one = work_weighs k (number_of h.1) r.state.owner o h.3 in
        let zero : times n (work_numbers (h.1).work) ≡ 0 = ap (λ (x : Option Work). times n (work_numbers x)) none in
        absurd (omega arith)

    inside_found : (n : ℕ) (o : Option HeaderRecord) → find_header n W.world.headers ≡ o → MatchOption (option_map state_of o) (Unit {0}) (λ s. is_inside s.owner ≡ true)
    inside_found n None f = tt
    inside_found n (Some r) f =
        let shown : (stocked g.stock).headers.header n ≡ Some r.state = ap (λ (x : Seen). x.header n) (sym (seen_of progress g W.world W.stands)) ∙ ap (option_map state_of) f in
        inside_by n r r.state.owner f shown refl

    pub all_in_inside : AllInside (stocked g.stock)
    all_in_inside = λ n.
        let Q : Option HeaderState → Type 0 = λ o. MatchOption o (Unit {0}) (λ s. is_inside s.owner ≡ true) in
        subst (λ (x : Seen). Q (x.header n)) (seen_of progress g W.world W.stands) (inside_found n (find_header n W.world.headers) refl)

    pub all_in_clients : All (λ e. IsSome e.queues.client) g.entries
    all_in_clients = from_places (λ (e : Entry C). IsSome e.queues.client) g.entries (λ i e t. some_client e.queues.client (at_place (λ (c : Component). c.client_out ≡ false) (components_of g.entries) i (component_of e) A.clients (there progress g i e t)))

    entry_in : (e : Entry C) → IsSome e.queues.client → e.work ≡ None → e.file ≡ None → is_in e ≡ true
    entry_in e s n f = all_three (not (is_none e.queues.client)) (not (is_some e.work)) (is_none e.file) (ap not (client_is e.queues.client s)) (ap (λ (o : Option Work). not (is_some o)) n) (ap is_none f)

    at_entry : (P : Component → Type 0) (i : ℕ) (e : Entry C) → All P (components_of g.entries) → slice_get g.entries i ≡ Some e → P (component_of e)
    at_entry P i e all t = at_place P (components_of g.entries) i (component_of e) all (there progress g i e t)

    pub all_in_tested : list_all is_in g.entries ≡ true
    all_in_tested = list_all-from_AllPass is_in g.entries (from_places (λ (e : Entry C). is_in e ≡ true) g.entries (λ i e t.
        entry_in e (at_place (λ (e : Entry C). IsSome e.queues.client) g.entries i e all_in_clients t) (at_entry (λ c. c.work ≡ None) i e A.works t) (at_entry (λ c. c.file ≡ None) i e A.files t)))

  with_client : (o : Option HeaderState) → MatchOption o (Unit {0}) (λ s. is_inside s.owner ≡ true) → MatchOption o ⊥ (λ s. s.owner ≡ owners.Client) → ⊥
  with_client None i c = c
  with_client (Some s) i c = let x : is_inside s.owner ≡ false = ap is_inside c in absurd cc

  -- what is known of an entry is known of its component
  of_entries : (P : Component → Type 0) → ((e : Entry C) → is_in e ≡ true → P (component_of e)) → list_all is_in g.entries ≡ true → All P (components_of g.entries)
  of_entries P f tested = from_places P (components_of g.entries) (λ i c t.
      let m = mapped_some (slice_get g.entries i) c (sym (slice_get-map component_of g.entries i) ∙ t) in
      subst P m.2 (f m.0 (at_place (λ (e : Entry C). is_in e ≡ true) g.entries i m.0 (AllPass-from_list_all is_in g.entries tested) m.1)))

  each_of : (e : Entry C) → is_in e ≡ true → (not (is_none e.queues.client) ≡ true) × (not (is_some e.work) ≡ true) × (is_none e.file ≡ true)
  each_of e h =
      let a = both_are (not (is_none e.queues.client) && not (is_some e.work)) (is_none e.file) h in
      let b = both_are (not (is_none e.queues.client)) (not (is_some e.work)) a.0 in
      (b.0, b.1, a.1)

  pub tested_in : AllInside (stocked g.stock) → list_all is_in g.entries ≡ true → IsAllIn (look_of g)
  tested_in inside tested = record {
    headers = λ n c. with_client ((stocked g.stock).headers.header n) (inside n) c;
    clients = of_entries (λ c. c.client_out ≡ false) (λ e h. true_not (is_none e.queues.client) (each_of e h).0) tested;
    works = of_entries (λ c. c.work ≡ None) (λ e h. no_work e.work (true_not (is_some e.work) (each_of e h).1)) tested;
    files = of_entries (λ c. c.file ≡ None) (λ e h. no_file e.file (each_of e h).2) tested;
  }
