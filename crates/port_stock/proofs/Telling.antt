-- Rings, counts and table tell of the flat list after each change, as they did before.
use Rattle.std.proofs.Common.{◌≡◌, ℕ, ◌+◌, ◌-◌, ◌≤◌, Bool, true, false, nat_eq, List, [], ◌∷◌, ◌++◌, map, drop, slice_get, Option, Some, None, option_map, if◌then◌else◌, refl, sym, ◌∙◌, ap, arith, inl, inr, subst, append-nil}
use Rattle.std.proofs.lemmas.Bool.Decides.{eqb_tells}
use Rattle.il_machine.specs.declared.port.PortKey.{PortKey}
use Rattle.il_machine.specs.declared.port.Mark.{Mark}
use Rattle.il_machine.specs.declared.header.Owner.{Owner}
use Rattle.il_machine.specs.declared.header.Queue.TheVariants.{Out}
use Rattle.il_machine.specs.declared.header.Spot.{Spot}
use Rattle.il_machine.specs.declared.header.Spot.TheVariants.{TodoBack, TodoFront, DoneBack}
use Rattle.il_machine.specs.declared.header.HeaderState.{HeaderState}
use Rattle.il_machine.specs.World.{HeaderRecord, Load}
use Rattle.il_machine.specs.Headers.{Seen, seen, changed, count_headers, find_header, given_to, in_todo, in_done, is_for, is_done, is_owned_by, is_state, loaded, numbers, put, put_at, same_key, state_at, state_given, state_of, weight, without, Once}
use Rattle.il_machine.specs.Due.{marked}
use Rattle.il_machine.specs.Stock.{Stocked, StandsFor, at_key, pushed, number_where, times_passed}
use Rattle.stock_laws.specs.Changes.{cleared_where}
use Rattle.stock_laws.proofs.Flat.{count-append, count-changed, count-without, find_number, find-append, find-changed, find-without_other, find-without_same, numbers-append, numbers-changed, numbers-without}
use Rattle.stock_laws.proofs.Keys.{at_key-same, key_tells, other_owner, same_key-sym}
use Rattle.stock_laws.proofs.Seeing.{count-at_spot}
use Rattle.stock_laws.proofs.Standing.{find_at, find_beside, push_stands}
use Rattle.stock_laws.proofs.Leaving.{and_both, and_false_right, fronts, front_some, front_none, numbers-changed_front, other_todo, todo_not_done, done_not_todo}
use Rattle.stock_laws.proofs.Clearing.{find-map}
use Rattle.port_stock.specs.declared.port.Port.{Port}
use Rattle.port_stock.specs.Entries.{put_record, record_out}
use Rattle.port_stock.specs.Rings.{IsPortOf, Recounts, Replaces, Tells, is_away_from, is_guest, port_at, recounted, with_number, without_done, without_todo}

-- ---- counts

-- how the counts of a list change where a header was so before, and is so after
pub record Counted (before after : Option HeaderState) (old new : List HeaderRecord) : Type 0 where
  pub enough : (test : HeaderState → Bool) → times_passed test before ≤ count_headers test old
  pub now : (test : HeaderState → Bool) → count_headers test new + times_passed test before ≡ count_headers test old + times_passed test after

-- a port whose lists are those of the new list, and whose counts are still those of the old one
record Half (old new : List HeaderRecord) (key : PortKey) (p : Port) : Type 0 where
  named : p.key ≡ key
  todo : p.todo.items ≡ numbers (is_state (in_todo key)) new
  done : p.done.items ≡ numbers (is_state (in_done key)) new
  todo_places : p.todo.capacity ≡ 32
  done_places : p.done.capacity ≡ 32
  made : p.made ≡ count_headers (is_for key) old
  outstanding : p.outstanding ≡ count_headers (is_away_from key) old
  foreign : p.foreign ≡ count_headers (is_guest key) old

moved_count : (n w x m c : ℕ) → n ≡ c → w ≤ c → m + w ≡ c + x → n - w + x ≡ m
moved_count n w x m c e l h = omega arith

counted_port : (before after : Option HeaderState) (old new : List HeaderRecord) (key : PortKey) (p : Port) → Counted before after old new → Half old new key p → IsPortOf new key (recounted key before after p)
counted_port before after old new key p C H = record {
  named = H.named;
  todo = H.todo;
  done = H.done;
  todo_places = H.todo_places;
  done_places = H.done_places;
  made = moved_count p.made _ _ _ _ H.made (C.enough (is_for key)) (C.now (is_for key));
  outstanding = moved_count p.outstanding _ _ _ _ H.outstanding (C.enough (is_away_from key)) (C.now (is_away_from key));
  foreign = moved_count p.foreign _ _ _ _ H.foreign (C.enough (is_guest key)) (C.now (is_guest key));
}

-- the lists stay
half : (old new : List HeaderRecord) (key : PortKey) (p : Port) → numbers (is_state (in_todo key)) new ≡ numbers (is_state (in_todo key)) old → numbers (is_state (in_done key)) new ≡ numbers (is_state (in_done key)) old
    → IsPortOf old key p → Half old new key p
half old new key p t d P = record {
  named = P.named;
  todo = P.todo ∙ sym t;
  done = P.done ∙ sym d;
  todo_places = P.todo_places;
  done_places = P.done_places;
  made = P.made;
  outstanding = P.outstanding;
  foreign = P.foreign;
}

counts_changed : (n : ℕ) (f : HeaderRecord → HeaderRecord) (hs : List HeaderRecord) (r : HeaderRecord) (s : HeaderState) → find_header n hs ≡ Some r → (f r).state ≡ s → Counted (Some r.state) (Some s) hs (changed n f hs)
counts_changed n f hs r s e same = record {
  enough = λ test. omega (arith, count-without test n hs r e);
  now = λ test. count-changed test n f hs r e ∙ ap (λ (x : HeaderState). count_headers test hs + weight (test x)) same;
}

-- ---- the same change of table and flat list

changed_found : (n m : ℕ) (f : HeaderRecord → HeaderRecord) (table flat : List HeaderRecord) (r : HeaderRecord) → ((k : ℕ) → find_header k table ≡ find_header k flat) → find_header n flat ≡ Some r → (f r).state.number ≡ r.state.number
    → find_header m (changed n f table) ≡ find_header m (changed n f flat)
changed_found n m f table flat r F e s =
    find-changed m n f table r (F n ∙ e) s ∙ (ap (λ (o : Option HeaderRecord). if nat_eq m n then Some (f r) else o) (F m) ∙ sym (find-changed m n f flat r e s))

changed_counted : (test : HeaderState → Bool) (n : ℕ) (f : HeaderRecord → HeaderRecord) (table flat : List HeaderRecord) (r : HeaderRecord) → ((k : ℕ) → find_header k table ≡ find_header k flat) → count_headers test table ≡ count_headers test flat → find_header n flat ≡ Some r
    → count_headers test (changed n f table) ≡ count_headers test (changed n f flat)
changed_counted test n f table flat r F c e =
    let a = count-changed test n f table r (F n ∙ e) in
    let b = count-changed test n f flat r e in
    omega arith

-- ---- a header is put at a spot

abbrev pub plain : List HeaderRecord → Stocked
plain flat = record { key = 0; ports = []; headers = seen flat; loads = λ n. None; next = 0 }

pub plain_stands : (flat : List HeaderRecord) → Once flat → StandsFor (plain flat) flat
plain_stands flat once = record { looks = refl; loads = λ n l h. absurd cc; once = once }

at_key-other : {A : Type 0} (key k : PortKey) (x : A) (f : PortKey → A) → same_key key k ≡ false → at_key key x f k ≡ f k
at_key-other key k x f d = rw (same_key-sym k key, d) refl

module _ (flat : List HeaderRecord) (key : PortKey) (n : ℕ) (load : Load) (r : HeaderRecord) (once : Once flat) (e : find_header n flat ≡ Some r) (o : r.state.queue ≡ Out) where
  put_looks : (spot : Spot) → seen (put key spot n (loaded load) flat) ≡ (pushed key spot n load (plain flat)).headers
  put_looks spot = (push_stands (plain flat) flat key spot n load r.state (plain_stands flat once) (ap (option_map state_of) e) o).looks

  put_half : (spot : Spot) (p : Port) → IsPortOf flat key p → Half flat (put key spot n (loaded load) flat) key (with_number spot n p)
  put_half TodoBack p P = record {
    named = P.named;
    todo = ap (λ (ns : List ℕ). ns ++ n ∷ []) P.todo ∙ sym (ap (λ (v : Seen). v.todo key) (put_looks TodoBack) ∙ at_key-same key (numbers (is_state (in_todo key)) flat ++ n ∷ []) (λ k. numbers (is_state (in_todo k)) flat));
    done = P.done ∙ sym (ap (λ (v : Seen). v.done key) (put_looks TodoBack));
    todo_places = P.todo_places;
    done_places = P.done_places;
    made = P.made;
    outstanding = P.outstanding;
    foreign = P.foreign;
  }
  put_half TodoFront p P = record {
    named = P.named;
    todo = ap (λ (ns : List ℕ). n ∷ ns) P.todo ∙ sym (ap (λ (v : Seen). v.todo key) (put_looks TodoFront) ∙ at_key-same key (n ∷ numbers (is_state (in_todo key)) flat) (λ k. numbers (is_state (in_todo k)) flat));
    done = P.done ∙ sym (ap (λ (v : Seen). v.done key) (put_looks TodoFront));
    todo_places = P.todo_places;
    done_places = P.done_places;
    made = P.made;
    outstanding = P.outstanding;
    foreign = P.foreign;
  }
  put_half DoneBack p P = record {
    named = P.named;
    todo = P.todo ∙ sym (ap (λ (v : Seen). v.todo key) (put_looks DoneBack));
    done = ap (λ (ns : List ℕ). ns ++ n ∷ []) P.done ∙ sym (ap (λ (v : Seen). v.done key) (put_looks DoneBack) ∙ at_key-same key (numbers (is_state (in_done key)) flat ++ n ∷ []) (λ k. numbers (is_state (in_done k)) flat));
    todo_places = P.todo_places;
    done_places = P.done_places;
    made = P.made;
    outstanding = P.outstanding;
    foreign = P.foreign;
  }

  put_beside : (spot : Spot) (k : PortKey) (p : Port) → same_key key k ≡ false → IsPortOf flat k p → Half flat (put key spot n (loaded load) flat) k p
  put_beside TodoBack k p d P =
      half flat _ k p (ap (λ (v : Seen). v.todo k) (put_looks TodoBack) ∙ at_key-other key k _ (λ k. numbers (is_state (in_todo k)) flat) d) (ap (λ (v : Seen). v.done k) (put_looks TodoBack)) P
  put_beside TodoFront k p d P =
      half flat _ k p (ap (λ (v : Seen). v.todo k) (put_looks TodoFront) ∙ at_key-other key k _ (λ k. numbers (is_state (in_todo k)) flat) d) (ap (λ (v : Seen). v.done k) (put_looks TodoFront)) P
  put_beside DoneBack k p d P =
      half flat _ k p (ap (λ (v : Seen). v.todo k) (put_looks DoneBack)) (ap (λ (v : Seen). v.done k) (put_looks DoneBack) ∙ at_key-other key k _ (λ k. numbers (is_state (in_done k)) flat) d) P

  put_count : (spot : Spot) (test : HeaderState → Bool) → count_headers test (put key spot n (loaded load) flat) + weight (test r.state) ≡ count_headers test flat + weight (test (state_at key spot r.state))
  put_count spot test =
      let y = put_at key spot (loaded load r) in
      let a = count-at_spot spot test y (without n flat) in
      let b = count-without test n flat r e in
      rw e (omega arith)

  put_counted : (spot : Spot) → Counted (Some r.state) (Some (state_at key spot r.state)) flat (put key spot n (loaded load) flat)
  put_counted spot = record {
    enough = λ test. omega (arith, count-without test n flat r e);
    now = λ test. put_count spot test;
  }

  put_found : (spot : Spot) (table : List HeaderRecord) (m : ℕ) → ((k : ℕ) → find_header k table ≡ find_header k flat) → find_header m (changed n (put_record key spot load) table) ≡ find_header m (put key spot n (loaded load) flat)
  put_found spot table m F =
      let y = put_at key spot (loaded load r) in
      let gone = find-without_same n flat once in
      let num : y.state.number ≡ n = find_number n flat r e in
      find-changed m n (put_record key spot load) table r (F n ∙ e) refl ∙ rw e (elim (eqb_tells m n) [
        | inl x ↦ rw (x.0, x.1) (sym (find_at spot n y (without n flat) gone num))
        | inr x ↦ rw x.0 (F m ∙ sym (find_beside spot n m y (without n flat) gone num x.1 ∙ find-without_other m n flat x.1))
      ])

  pub put_tells : (spot : Spot) (ps qs rs : List Port) (table : List HeaderRecord) → Tells ps table flat → Replaces key (with_number spot n (port_at key ps)) ps qs → Recounts (Some r.state) (Some (state_at key spot r.state)) qs rs
      → Tells rs (changed n (put_record key spot load) table) (put key spot n (loaded load) flat)
  put_tells spot ps qs rs table T R C = record {
    port = λ k.
        let flats = put key spot n (loaded load) flat in
        let P : Port → Type 0 = λ p. IsPortOf flats k p in
        subst P (sym (C.at k)) (elim (key_tells key k) [
          | inl x ↦
              let was : port_at k qs ≡ with_number spot n (port_at key ps) = R.at k ∙ rw x.0 refl in
              let H : Half flat flats key (port_at k qs) = subst (λ (p : Port). Half flat flats key p) (sym was) (put_half spot (port_at key ps) (T.port key)) in
              counted_port (Some r.state) (Some (state_at key spot r.state)) flat flats k (port_at k qs) (put_counted spot) (subst (λ (l : PortKey). Half flat flats l (port_at k qs)) x.1 H)
          | inr x ↦
              let was : port_at k qs ≡ port_at k ps = R.at k ∙ rw x.0 refl in
              let H : Half flat flats k (port_at k qs) = subst (λ (p : Port). Half flat flats k p) (sym was) (put_beside spot k (port_at k ps) x.0 (T.port k)) in
              counted_port (Some r.state) (Some (state_at key spot r.state)) flat flats k (port_at k qs) (put_counted spot) H
        ]);
    found = λ m. put_found spot table m T.found;
    counted = λ test.
        let a = count-changed test n (put_record key spot load) table r (T.found n ∙ e) in
        let b = put_count spot test in
        let c = T.counted test in
        omega arith;
  }

-- ---- a header that is in no list is given, unmade and made

module _ (flat : List HeaderRecord) (n : ℕ) (r : HeaderRecord) (e : find_header n flat ≡ Some r) (o : r.state.queue ≡ Out) where
  out_test : (k : PortKey) → is_state (in_todo k) r ≡ false
  out_test k = rw o refl

  out_tested : (k : PortKey) → is_state (in_done k) r ≡ false
  out_tested k = rw o refl

  pub give_tells : (owner : Owner) (ps qs : List Port) (table : List HeaderRecord) → Tells ps table flat → Recounts (Some r.state) (Some (state_given owner r.state)) ps qs → Tells qs (changed n (given_to owner) table) (changed n (given_to owner) flat)
  give_tells owner ps qs table T C = record {
    port = λ k.
        let P : Port → Type 0 = λ p. IsPortOf (changed n (given_to owner) flat) k p in
        let t = numbers-changed (is_state (in_todo k)) n (given_to owner) flat r e refl (sym (out_test k)) in
        let d = numbers-changed (is_state (in_done k)) n (given_to owner) flat r e refl (sym (out_tested k)) in
        subst P (sym (C.at k)) (counted_port _ _ flat _ k (port_at k ps) (counts_changed n (given_to owner) flat r _ e refl) (half flat _ k (port_at k ps) t d (T.port k)));
    found = λ m. changed_found n m (given_to owner) table flat r T.found e refl;
    counted = λ test. changed_counted test n (given_to owner) table flat r T.found (T.counted test) e;
  }

  without_found : (m : ℕ) (table : List HeaderRecord) → Once table → Once flat → ((k : ℕ) → find_header k table ≡ find_header k flat) → find_header m (without n table) ≡ find_header m (without n flat)
  without_found m table a b F = elim (eqb_tells m n) [
    | inl x ↦ rw x.1 (find-without_same n table a ∙ sym (find-without_same n flat b))
    | inr x ↦ find-without_other m n table x.1 ∙ (F m ∙ sym (find-without_other m n flat x.1))
  ]

  pub without_tells : (ps qs : List Port) (table : List HeaderRecord) → Once table → Once flat → Tells ps table flat → Recounts (Some r.state) None ps qs → Tells qs (without n table) (without n flat)
  without_tells ps qs table a b T C = record {
    port = λ k.
        let P : Port → Type 0 = λ p. IsPortOf (without n flat) k p in
        let t = numbers-without (is_state (in_todo k)) n flat r e (out_test k) in
        let d = numbers-without (is_state (in_done k)) n flat r e (out_tested k) in
        let moved : Counted (Some r.state) None flat (without n flat) = record {
          enough = λ test. omega (arith, count-without test n flat r e);
          now = λ test. omega (arith, count-without test n flat r e);
        } in
        subst P (sym (C.at k)) (counted_port _ _ flat _ k (port_at k ps) moved (half flat _ k (port_at k ps) t d (T.port k)));
    found = λ m. without_found m table a b T.found;
    counted = λ test.
        let x = count-without test n table r (T.found n ∙ e) in
        let y = count-without test n flat r e in
        let z = T.counted test in
        omega arith;
  }

pub made_tells : (ps qs : List Port) (table flat : List HeaderRecord) (x : HeaderRecord) → find_header x.state.number flat ≡ None → x.state.queue ≡ Out → Tells ps table flat → Recounts None (Some x.state) ps qs
    → Tells qs (table ++ x ∷ []) (flat ++ x ∷ [])
made_tells ps qs table flat x gone o T C = record {
  port = λ k.
      let P : Port → Type 0 = λ p. IsPortOf (flat ++ x ∷ []) k p in
      let a : is_state (in_todo k) x ≡ false = rw o refl in
      let b : is_state (in_done k) x ≡ false = rw o refl in
      let t = numbers-append (is_state (in_todo k)) flat x ∙ (ap (λ (v : Bool). numbers (is_state (in_todo k)) flat ++ number_where v x.state.number) a ∙ append-nil _) in
      let d = numbers-append (is_state (in_done k)) flat x ∙ (ap (λ (v : Bool). numbers (is_state (in_done k)) flat ++ number_where v x.state.number) b ∙ append-nil _) in
      let moved : Counted None (Some x.state) flat (flat ++ x ∷ []) = record {
        enough = λ test. omega arith;
        now = λ test. omega (arith, count-append test flat x);
      } in
      subst P (sym (C.at k)) (counted_port _ _ flat _ k (port_at k ps) moved (half flat _ k (port_at k ps) t d (T.port k)));
  found = λ m.
      let g : find_header x.state.number table ≡ None = T.found x.state.number ∙ gone in
      find-append m table x g ∙ (ap (λ (v : Option HeaderRecord). if nat_eq x.state.number m then Some x else v) (T.found m) ∙ sym (find-append m flat x gone));
  counted = λ test.
      let a = count-append test table x in
      let b = count-append test flat x in
      let c = T.counted test in
      omega arith;
}

-- ---- the front of a list leaves it

out_count : (test : HeaderState → Bool) (n : ℕ) (hs : List HeaderRecord) (r : HeaderRecord) → find_header n hs ≡ Some r → test (record_out r).state ≡ test r.state → count_headers test (changed n record_out hs) ≡ count_headers test hs
out_count test n hs r e s =
    let a = count-changed test n record_out hs r e in
    let b = ap weight s in
    omega arith

front_rest : (ns : List ℕ) (n : ℕ) (rest : List ℕ) → ns ≡ n ∷ rest → drop 1 ns ≡ rest
front_rest ns n rest e = ap (drop 1) e

pub pull_tells : (key : PortKey) (ps qs : List Port) (table flat : List HeaderRecord) (n : ℕ) → Once flat → slice_get (port_at key ps).todo.items 0 ≡ Some n → Tells ps table flat → Replaces key (without_todo (port_at key ps)) ps qs
    → Tells qs (changed n record_out table) (changed n record_out flat)
pull_tells key ps qs table flat n once f T R =
    let list = front_some (port_at key ps).todo.items n f in
    let ns : numbers (is_state (in_todo key)) flat ≡ n ∷ list.0 = sym (T.port key).todo ∙ list.1 in
    let F = fronts (is_state (in_todo key)) n list.0 flat once ns in
    let r = F.it in
    let flats = changed n record_out flat in
    let done : (k : PortKey) → numbers (is_state (in_done k)) flats ≡ numbers (is_state (in_done k)) flat = λ k. numbers-changed (is_state (in_done k)) n record_out flat r F.is refl (sym (todo_not_done key k r F.passes)) in
    let todo : numbers (is_state (in_todo key)) flats ≡ list.0 = numbers-changed_front (is_state (in_todo key)) n list.0 record_out flat once ns (λ x. refl) in
    record {
      port = λ k. elim (key_tells key k) [
        | inl x ↦
            let P = T.port key in
            let p = port_at key ps in
            let now : IsPortOf flats key (without_todo p) = record {
              named = P.named;
              todo = front_rest p.todo.items n list.0 list.1 ∙ sym todo;
              done = P.done ∙ sym (done key);
              todo_places = P.todo_places;
              done_places = P.done_places;
              made = P.made ∙ sym (out_count (is_for key) n flat r F.is refl);
              outstanding = P.outstanding ∙ sym (out_count (is_away_from key) n flat r F.is refl);
              foreign = P.foreign ∙ sym (out_count (is_guest key) n flat r F.is refl);
            } in
            let is : port_at k qs ≡ without_todo p = R.at k ∙ rw x.0 refl in
            subst (λ (q : Port). IsPortOf flats k q) (sym is) (subst (λ (l : PortKey). IsPortOf flats l (without_todo p)) x.1 now)
        | inr x ↦
            let P = T.port k in
            let p = port_at k ps in
            let now : IsPortOf flats k p = record {
              named = P.named;
              todo = P.todo ∙ sym (numbers-changed (is_state (in_todo k)) n record_out flat r F.is refl (sym (other_todo key k r F.passes x.0)));
              done = P.done ∙ sym (done k);
              todo_places = P.todo_places;
              done_places = P.done_places;
              made = P.made ∙ sym (out_count (is_for k) n flat r F.is refl);
              outstanding = P.outstanding ∙ sym (out_count (is_away_from k) n flat r F.is refl);
              foreign = P.foreign ∙ sym (out_count (is_guest k) n flat r F.is refl);
            } in
            let is : port_at k qs ≡ p = R.at k ∙ rw x.0 refl in
            subst (λ (q : Port). IsPortOf flats k q) (sym is) now
      ];
      found = λ m. changed_found n m record_out table flat r T.found F.is refl;
      counted = λ test. changed_counted test n record_out table flat r T.found (T.counted test) F.is;
    }

other_done : (key k : PortKey) (r : HeaderRecord) → is_state (in_done key) r ≡ true → same_key key k ≡ false → is_state (in_done k) r ≡ false
other_done key k r h d = rw (other_owner key k r.state.owner (and_both (is_done r.state.queue) (is_owned_by key r.state.owner) h).1 d) (and_false_right (is_done r.state.queue))

pub send_tells : (key : PortKey) (ps qs : List Port) (table flat : List HeaderRecord) (n : ℕ) → Once flat → slice_get (port_at key ps).done.items 0 ≡ Some n → Tells ps table flat → Replaces key (without_done (port_at key ps)) ps qs
    → Tells qs (changed n record_out table) (changed n record_out flat)
send_tells key ps qs table flat n once f T R =
    let list = front_some (port_at key ps).done.items n f in
    let ns : numbers (is_state (in_done key)) flat ≡ n ∷ list.0 = sym (T.port key).done ∙ list.1 in
    let F = fronts (is_state (in_done key)) n list.0 flat once ns in
    let r = F.it in
    let flats = changed n record_out flat in
    let todo : (k : PortKey) → numbers (is_state (in_todo k)) flats ≡ numbers (is_state (in_todo k)) flat = λ k. numbers-changed (is_state (in_todo k)) n record_out flat r F.is refl (sym (done_not_todo key k r F.passes)) in
    let done : numbers (is_state (in_done key)) flats ≡ list.0 = numbers-changed_front (is_state (in_done key)) n list.0 record_out flat once ns (λ x. refl) in
    record {
      port = λ k. elim (key_tells key k) [
        | inl x ↦
            let P = T.port key in
            let p = port_at key ps in
            let now : IsPortOf flats key (without_done p) = record {
              named = P.named;
              todo = P.todo ∙ sym (todo key);
              done = front_rest p.done.items n list.0 list.1 ∙ sym done;
              todo_places = P.todo_places;
              done_places = P.done_places;
              made = P.made ∙ sym (out_count (is_for key) n flat r F.is refl);
              outstanding = P.outstanding ∙ sym (out_count (is_away_from key) n flat r F.is refl);
              foreign = P.foreign ∙ sym (out_count (is_guest key) n flat r F.is refl);
            } in
            let is : port_at k qs ≡ without_done p = R.at k ∙ rw x.0 refl in
            subst (λ (q : Port). IsPortOf flats k q) (sym is) (subst (λ (l : PortKey). IsPortOf flats l (without_done p)) x.1 now)
        | inr x ↦
            let P = T.port k in
            let p = port_at k ps in
            let now : IsPortOf flats k p = record {
              named = P.named;
              todo = P.todo ∙ sym (todo k);
              done = P.done ∙ sym (numbers-changed (is_state (in_done k)) n record_out flat r F.is refl (sym (other_done key k r F.passes x.0)));
              todo_places = P.todo_places;
              done_places = P.done_places;
              made = P.made ∙ sym (out_count (is_for k) n flat r F.is refl);
              outstanding = P.outstanding ∙ sym (out_count (is_away_from k) n flat r F.is refl);
              foreign = P.foreign ∙ sym (out_count (is_guest k) n flat r F.is refl);
            } in
            let is : port_at k qs ≡ p = R.at k ∙ rw x.0 refl in
            subst (λ (q : Port). IsPortOf flats k q) (sym is) now
      ];
      found = λ m. changed_found n m record_out table flat r T.found F.is refl;
      counted = λ test. changed_counted test n record_out table flat r T.found (T.counted test) F.is;
    }

-- where a list is empty, nothing leaves it

no_rest : (ns : List ℕ) → ns ≡ [] → drop 1 ns ≡ ns
no_rest ns e = ap (drop 1) e ∙ sym e

same_ports : (ps qs : List Port) (table flat : List HeaderRecord) → ((k : PortKey) → port_at k qs ≡ port_at k ps) → Tells ps table flat → Tells qs table flat
same_ports ps qs table flat same T = record {
  port = λ k. subst (λ (p : Port). IsPortOf flat k p) (sym (same k)) (T.port k);
  found = T.found;
  counted = T.counted;
}

replaced_same : (key k : PortKey) (p : Port) (ps qs : List Port) → Replaces key p ps qs → p ≡ port_at key ps → port_at k qs ≡ port_at k ps
replaced_same key k p ps qs R e = elim (key_tells key k) [
  | inl x ↦ let is : port_at k qs ≡ p = R.at k ∙ rw x.0 refl in is ∙ (e ∙ ap (λ (l : PortKey). port_at l ps) x.1)
  | inr x ↦ R.at k ∙ rw x.0 refl
]

pub pull_nothing : (key : PortKey) (ps qs : List Port) (table flat : List HeaderRecord) → slice_get (port_at key ps).todo.items 0 ≡ None → Replaces key (without_todo (port_at key ps)) ps qs → Tells ps table flat → Tells qs table flat
pull_nothing key ps qs table flat none R T =
    let p = port_at key ps in
    let e = no_rest p.todo.items (front_none p.todo.items none) in
    let same : without_todo p ≡ p = λ i. record p { todo = record { items = e i; capacity = p.todo.capacity } } in
    same_ports ps qs table flat (λ k. replaced_same key k (without_todo p) ps qs R same) T

pub send_nothing : (key : PortKey) (ps qs : List Port) (table flat : List HeaderRecord) → slice_get (port_at key ps).done.items 0 ≡ None → Replaces key (without_done (port_at key ps)) ps qs → Tells ps table flat → Tells qs table flat
send_nothing key ps qs table flat none R T =
    let p = port_at key ps in
    let e = no_rest p.done.items (front_none p.done.items none) in
    let same : without_done p ≡ p = λ i. record p { done = record { items = e i; capacity = p.done.capacity } } in
    same_ports ps qs table flat (λ k. replaced_same key k (without_done p) ps qs R same) T

-- ---- headers are cleared or marked where they stand

where_state : (b : Bool) (r : HeaderRecord) → (cleared_where b r).state ≡ r.state
where_state true r = refl
where_state false r = refl

module _ (test : HeaderState → Bool) where
  numbers_where : (q : HeaderState → Bool) (hs : List HeaderRecord) → numbers (is_state q) (map (λ r. cleared_where (test r.state) r) hs) ≡ numbers (is_state q) hs
  numbers_where q [] = refl
  numbers_where q (x ∷ hs) = rw (where_state (test x.state) x, numbers_where q hs) refl

  pub count_where : (q : HeaderState → Bool) (hs : List HeaderRecord) → count_headers q (map (λ r. cleared_where (test r.state) r) hs) ≡ count_headers q hs
  count_where q [] = refl
  count_where q (x ∷ hs) = rw (where_state (test x.state) x, count_where q hs) refl

  pub clear_tells : (ps : List Port) (table flat : List HeaderRecord) → Tells ps table flat → Tells ps (map (λ r. cleared_where (test r.state) r) table) (map (λ r. cleared_where (test r.state) r) flat)
  clear_tells ps table flat T = record {
    port = λ k. let P = T.port k in record {
      named = P.named;
      todo = P.todo ∙ sym (numbers_where (in_todo k) flat);
      done = P.done ∙ sym (numbers_where (in_done k) flat);
      todo_places = P.todo_places;
      done_places = P.done_places;
      made = P.made ∙ sym (count_where (is_for k) flat);
      outstanding = P.outstanding ∙ sym (count_where (is_away_from k) flat);
      foreign = P.foreign ∙ sym (count_where (is_guest k) flat);
    };
    found = λ m.
        let f : HeaderRecord → HeaderRecord = λ r. cleared_where (test r.state) r in
        find-map f (λ r. where_state (test r.state) r) m table ∙ (ap (option_map f) (T.found m) ∙ sym (find-map f (λ r. where_state (test r.state) r) m flat));
    counted = λ q. count_where q table ∙ (T.counted q ∙ sym (count_where q flat));
  }

pub mark_tells : (ps : List Port) (table flat : List HeaderRecord) (n : ℕ) (r : HeaderRecord) (mark : Mark) → find_header n flat ≡ Some r → Tells ps table flat → Tells ps (changed n (marked (Some mark)) table) (changed n (marked (Some mark)) flat)
mark_tells ps table flat n r mark e T =
    let count : (test : HeaderState → Bool) → count_headers test (changed n (marked (Some mark)) flat) ≡ count_headers test flat = λ test. let a = count-changed test n (marked (Some mark)) flat r e in omega arith in
    record {
      port = λ k. let P = T.port k in record {
        named = P.named;
        todo = P.todo ∙ sym (numbers-changed (is_state (in_todo k)) n (marked (Some mark)) flat r e refl refl);
        done = P.done ∙ sym (numbers-changed (is_state (in_done k)) n (marked (Some mark)) flat r e refl refl);
        todo_places = P.todo_places;
        done_places = P.done_places;
        made = P.made ∙ sym (count (is_for k));
        outstanding = P.outstanding ∙ sym (count (is_away_from k));
        foreign = P.foreign ∙ sym (count (is_guest k));
      };
      found = λ m. changed_found n m (marked (Some mark)) table flat r T.found e refl;
      counted = λ test. changed_counted test n (marked (Some mark)) table flat r T.found (T.counted test) e;
    }
