-- Each step of a turn keeps the rule.
use Rattle.std.proofs.Common.{◌≡◌, ℕ, ◌+◌, ◌%◌, ◌<◌, ◌≤◌, ◌≢◌, cond, List, [], ◌∷◌, ◌++◌, length, get_or, set, true, false, Option, Some, None, sym, refl, ap, ap₂, ◌∙◌, subst, inl, inr, ⊎_elim, arith, append-nil, length-append, length-set, true≢false, mod-eq_of_lt}
use Rattle.std.proofs.lemmas.Option.{none-some}
use mathlib.Core.Option.{some, none, some-injective, some-ne-none}
use mathlib.Core.Option as maybe
use mathlib.Core.Logic.{dite}
use native.Mathlib.Decide.{ℕ_discrete}
use lib.ListN.{get_elem?}
use Rattle.atomic_table.specs.Table.{State, Me, step, keeps, takes, gives, Allows, rest, put_back}
use Rattle.atomic_table.proofs.Lists.{at_set, set_here, set_else, set_again}
use Rattle.turnstile.specs.declared.entry.Entry.{Entry}
use Rattle.turnstile.specs.declared.view.View.{View}
use Rattle.turnstile.specs.declared.view.Stage.TheVariants.{Ready}
use Rattle.turnstile.specs.Entries.{entry, own, Met, next}
use Rattle.turnstile.specs.Turns as turns
use Rattle.turnstile.specs.Turns.{newborn, opened, filled, drawn, entered, left, learned, parent, child, merged, gone, late, placed, one_less, HasTicket, waits, HavePlaces, ended, is_spent, total, Draws, Looks, Leaves, Learns}
use Rattle.turnstile.proofs.Basics.{some_is, by_bool, is_ready, at_below, only_one, begins_more, begins_self, own_mine, own_other, total_set, total_most, less_is, ended_le, late_counts, draws_waiting, after_among, after_placed, after_late, has_first}

module _ {V A R : Type 0} (legal : V → List (Entry A R) → Type 0) (reaches : V → List (Entry A R) → V → Type 0) (may : V → List (Entry A R) → A → Type 0) (clear : List (Entry A R) → Type 0) (key : V) where
  abbrev W : Type 0
  W = View V A R

  abbrev E : Type 0
  E = Entry A R

  abbrev St : Type 0
  St = State (Option V) W

  abbrev Homes : Type 0
  Homes = List (maybe.Option (Option V))

  abbrev Live : List E → Homes → ℕ → ℕ → W → Type 0
  Live = turns.Live legal reaches may clear key

  abbrev Gone : List E → List (ℕ × List E) → ℕ → W → Type 0
  Gone = turns.Gone legal reaches may clear key

  abbrev Fits : List E → Homes → ℕ → List (ℕ × List E) → ℕ → W → Type 0
  Fits = turns.Fits legal reaches may clear key

  abbrev Slot : List E → Homes → List W → Type 0
  Slot = turns.Slot legal reaches may clear key

  abbrev Going : St → Type 0
  Going = turns.Going legal reaches may clear key

  abbrev Kept : St → Type 0
  Kept = turns.Kept legal reaches may clear key

  pub not_building : (s : St) (id : ℕ) (v : W) → v.stage ≡ Ready → get_elem? s.views id ≡ some v → Kept s → Going s
  not_building s id v ready at k = ⊎_elim (λ b. ⊎_elim
      (λ x. let is : newborn key ≡ v = only_one _ v id (subst (λ (l : List W). get_elem? l id ≡ some v) x.0 at) in absurd (true≢false (sym (ap (λ (y : W). is_ready y.stage) is ∙ ap is_ready ready))))
      (λ x. let is : opened (newborn key) ≡ v = only_one _ v id (subst (λ (l : List W). get_elem? l id ≡ some v) x.0 at) in absurd (true≢false (sym (ap (λ (y : W). is_ready y.stage) is ∙ ap is_ready ready)))) b.1) (λ g. g) k

  module _ (s : St) (g : Going s) (id : ℕ) (v : W) (at : get_elem? s.views id ≡ some v) (alive : v.spent ≡ false) where
    pub mine : Live g.log s.homes g.next id v
    mine = (g.fits id v at).live alive

    -- a pass with a ticket is not joined
    pub drew : (j : ℕ) (u : W) (t : ℕ) → get_elem? s.views j ≡ some u → HasTicket u t → Live g.log s.homes g.next j u
    drew j u t e has = let f = g.fits j u e in by_bool u.spent (λ sp. absurd (none-some has.0 (sym (f.gone sp).ticket ∙ has.1))) (λ a. f.live a)

    pub went_in : (j : ℕ) (u : W) → get_elem? s.views j ≡ some u → u.inside ≡ true → Live g.log s.homes g.next j u
    went_in j u e in_ = let f = g.fits j u e in by_bool u.spent (λ sp. absurd (true≢false (sym in_ ∙ (f.gone sp).inside))) (λ a. f.live a)

    -- the view of this pass becomes w, which has joined and split as many
    pub moved : (w : W) → w.spent ≡ false → w.splits ≡ v.splits → w.joined ≡ v.joined
        → (nx : ℕ) (log : List E) (words : List ℕ) (homes : Homes)
        → words ≡ nx ∷ length log ∷ [] → length log ≤ nx → legal key log → Met (may key) log
        → ((j : ℕ) → j ≢ id → own j log ≡ own j g.log)
        → Live log homes nx id w
        → ((j : ℕ) (u : W) → j ≢ id → get_elem? s.views j ≡ some u → Live g.log s.homes g.next j u → Live log homes nx j u)
        → ((j : ℕ) (u : W) (t : ℕ) → j ≢ id → get_elem? s.views j ≡ some u → HasTicket w t → HasTicket u t → ⊥)
        → Slot log homes (set s.views id w)
        → HavePlaces nx (total waits (set s.views id w) + length log)
        → nx ≤ 1125899906842624 + total ended (set s.views id w)
        → Going record { words = words; homes = homes; views = set s.views id w }
    moved w alive' same_splits same_joined nx log words homes ws served lg mt own_same now others alone slot waiting few =
        let here : id < length s.views = at_below s.views id v at in record {
          log = log;
          next = nx;
          splits = g.splits;
          joined = g.joined;
          words = ws;
          served = served;
          is_legal = lg;
          met = mt;
          fits = λ j u e. ⊎_elim
              (λ x. subst (λ (y : ℕ × W). Fits log homes nx g.joined y.0 y.1) (λ i. (sym x.0 i, x.1 i)) record { live = λ _. now; gone = λ sp. absurd (true≢false (sym sp ∙ alive')) })
              (λ x. let f = g.fits j u x.1 in let same = own_same j x.0 in record {
                live = λ a. others j u x.0 x.1 (f.live a);
                gone = λ sp. let o = f.gone sp in record { cleared = subst clear (sym same) o.cleared; ticket = o.ticket; inside = o.inside; listed = (o.listed.0, o.listed.1 ∙ ap (λ l. some (j, l)) (sym same)) };
              }) (at_set s.views id j w u e);
          later = λ j le. let le' : length s.views ≤ j = subst (λ (n : ℕ). n ≤ j) (length-set s.views id w) le in own_same j (λ e. omega arith) ∙ g.later j le';
          apart = λ i j a b t ei ej ta tb. ⊎_elim
              (λ x. ⊎_elim (λ y. x.0 ∙ sym y.0) (λ y. absurd (alone j b t y.0 y.1 (subst (λ (z : W). HasTicket z t) (sym x.1) ta) tb)) (at_set s.views id j w b ej))
              (λ x. ⊎_elim (λ y. absurd (alone i a t x.0 x.1 (subst (λ (z : W). HasTicket z t) (sym y.1) tb) ta)) (λ y. g.apart i j a b t x.1 y.1 ta tb) (at_set s.views id j w b ej)) (at_set s.views id i w a ei);
          slot = slot;
          waiting = waiting;
          few = few;
          count = length-set s.views id w ∙ g.count;
          room = g.room;
          root = λ u e. ⊎_elim
              (λ x. let r = g.root v (subst (λ (n : ℕ). get_elem? s.views n ≡ some v) (sym x.0) at) in (sym (ap (λ (z : W). z.spent) x.1) ∙ alive', sym (ap (λ (z : W). z.splits) x.1) ∙ same_splits ∙ r.1, sym (ap (λ (z : W). z.joined) x.1) ∙ same_joined ∙ r.2))
              (λ x. g.root u x.1) (at_set s.views id 0 w u e);
          others = λ j u e pos. ⊎_elim
              (λ x. sym (ap (λ (z : W). z.joined) x.1) ∙ same_joined ∙ g.others id v at (subst (λ (n : ℕ). 0 < n) x.0 pos))
              (λ x. g.others j u x.1 pos) (at_set s.views id j w u e);
          all = let t = total_set is_spent s.views id v w at in let a : is_spent v ≡ 0 = ap (λ b. cond b 1 0) alive in let b : is_spent w ≡ 0 = ap (λ b. cond b 1 0) alive' in let o = g.all in omega arith;
          listed = λ i x e. let old = g.listed i x e in
              let apart : x.0 ≢ id = λ eq. true≢false (sym (old.1 v (subst (λ (n : ℕ). get_elem? s.views n ≡ some v) (sym eq) at)) ∙ alive) in (
                own_same x.0 apart ∙ old.0,
                (λ u e'. ⊎_elim (λ y. absurd (apart y.0)) (λ y. old.1 u y.1) (at_set s.views id x.0 w u e')),
                subst (λ (n : ℕ). x.0 < n) (sym (length-set s.views id w)) old.2,
              );
        }

    -- a pass that is not inside may change its view
    pub slot_stays : (w : W) → v.inside ≡ false → Slot g.log s.homes (set s.views id w)
    slot_stays w out = ⊎_elim (λ x. inl x)
        (λ x. let j : ℕ = x.0 in let u : W = x.1 in
        let apart : j ≢ id = λ eq. true≢false (sym x.3 ∙ (ap (λ (z : W). z.inside) (some-injective u v (sym x.2 ∙ subst (λ (n : ℕ). get_elem? s.views n ≡ some v) (sym eq) at)) ∙ out)) in
        inr (j, u, set_else s.views id j w apart ∙ x.2, x.3)) g.slot

    -- as many wait where this pass keeps its ticket
    pub waiting_stays : (w : W) → waits w ≡ waits v → HavePlaces g.next (total waits (set s.views id w) + length g.log)
    waiting_stays w same = let t = total_set waits s.views id v w at in let h = g.waiting in subst (HavePlaces g.next) (omega arith) h

    -- the counts stay where neither view draws no more
    pub few_stays : (w : W) → ended w ≡ ended v → g.next ≤ 1125899906842624 + total ended (set s.views id w)
    few_stays w same = let t = total_set ended s.views id v w at in let f = g.few in omega arith

    pub below : g.next + 65536 < 18446744073709551616
    below = let f = g.few in let c = g.count in let r = g.room in let t = total_most ended (λ u. ended_le u.spent u.ticket u.more) s.views in omega arith

  pub live_up : (log : List E) (homes : Homes) (nx nx' id : ℕ) (v : W) → nx ≤ nx' → Live log homes nx id v → Live log homes nx' id v
  live_up log homes nx nx' id v le l = record { stage = l.stage; number = l.number; opening = l.opening; seen = l.seen; also = l.also; mine = l.mine; ticket = λ t h. let k = l.ticket t h in (k.0, (let a = k.1 in omega arith)); inside = l.inside }

  pub draws : (slots id : ℕ) (me : Me (Option V) W) (count : ℕ) → me.0.stage ≡ Ready → me.0.spent ≡ false → me.0.ticket ≡ None → me.0.inside ≡ false → 0 < count → count ≤ 65536
      → Allows Kept slots id me 0 (λ n. (n + count) % 18446744073709551616) (Draws (step slots 0 count 0 none) me)
  draws slots id me count ready alive without out some_ few s kept wide at _ =
      let v : W = me.0 in let g = not_building s id v ready at kept in let n : ℕ = get_or s.words 0 0 in let w : W = drawn v n count in let m : ℕ = one_less count in
      let is : n ≡ g.next = ap (λ ws. get_or ws 0 0) g.words in let l = mine s g id v at alive in let more : count ≡ m + 1 = less_is count some_ in
      let b : g.next + 65536 < 18446744073709551616 = below s g id v at alive in
      let e0 : ended v ≡ 0 = ap (λ b. cond b 65536 (late v.ticket v.more)) alive ∙ ap (λ (o : Option ℕ). late o v.more) without in let e1 : ended w ≡ late (Some n) m = ap (λ b. cond b 65536 (late (Some n) m)) alive in
      let t = total_set ended s.views id v w at in let c = late_counts n m (total ended s.views) (omega arith) (let f = g.few in omega arith) in
      let e : waits v ≡ 0 = ap (λ (o : Option ℕ). placed o v.more) without in let q = total_set waits s.views id v w at in
      let waiting : HavePlaces (n + (m + 1)) (total waits (set s.views id w) + length g.log) = draws_waiting n m (total waits s.views) (total waits (set s.views id w)) (length g.log) (omega arith) (subst (λ k. HavePlaces k (total waits s.views + length g.log)) (sym is) g.waiting) in (
        w,
        keeps,
        tt,
        inr (moved s g id v at alive w alive refl refl (g.next + count) g.log (set s.words 0 ((n + count) % 18446744073709551616)) s.homes
            (ap (λ ws. set ws 0 ((get_or ws 0 0 + count) % 18446744073709551616)) g.words ∙ ap (λ k. k ∷ length g.log ∷ []) (mod-eq_of_lt (omega arith)))
            (let x = g.served in omega arith) g.is_legal g.met (λ j _. refl)
            record { stage = l.stage; number = l.number; opening = l.opening; seen = l.seen; also = l.also; mine = l.mine; ticket = λ t' h. let e' = some_is n h.0 h.1 in let low = h.2 in let high = h.3 in let x = g.served in (omega arith, omega arith); inside = λ i. absurd (true≢false (sym i ∙ out)) }
            (λ j u _ _ x. live_up g.log s.homes g.next (g.next + count) j u (omega arith) x)
            (λ j u t' _ e' mine' theirs. let k = ((drew s g id v at alive j u t' e' theirs).ticket t' theirs).1 in let i = some_is n mine'.0 mine'.1 in let low = mine'.2 in omega arith)
            (slot_stays s g id v at alive w out) (subst (λ k. HavePlaces k (total waits (set s.views id w) + length g.log)) (omega arith) waiting) (omega arith)),
        refl,
      )

  same_words : (s : St) (g : Going s) → set s.words 1 (get_or s.words 1 0) ≡ s.words
  same_words s g = ap (λ ws. set ws 1 (get_or ws 1 0)) g.words ∙ sym g.words

  same_state : (s : St) (id : ℕ) (v : W) (words : List ℕ) → words ≡ s.words → get_elem? s.views id ≡ some v → Going s → Going record { words = words; homes = s.homes; views = set s.views id v }
  same_state s id v words is at g = subst (λ (x : List ℕ × List W). Going record { words = x.0; homes = s.homes; views = x.1 }) (λ i. (sym is i, sym (set_again s.views id v at) i)) g

  -- what the history so far tells a pass
  pub tells : (s : St) (g : Going s) (id : ℕ) (v : W) (at : get_elem? s.views id ≡ some v) (alive : v.spent ≡ false) → turns.History legal may v g.log
  tells s g id v at alive = let l = mine s g id v at alive in record {
    first = key;
    opening = l.opening;
    is_legal = g.is_legal;
    met = g.met;
    seen = l.seen;
    also = l.also;
    mine = ap (λ (n : ℕ). own n g.log) l.number ∙ l.mine;
    joined = λ i x e. dite (ℕ_discrete id 0)
        (λ root. (g.listed i x (ap (λ (js : List (ℕ × List E)). get_elem? js i) (sym (g.root v (subst (λ (n : ℕ). get_elem? s.views n ≡ some v) root at)).2) ∙ e)).0)
        (λ other. let pos : 0 < id = omega arith in absurd (some-ne-none x (sym e ∙ ap (λ (js : List (ℕ × List E)). get_elem? js i) (g.others id v at pos))));
  }

  -- seen becomes the whole history, and nothing else changes
  pub learns_at : (s : St) (g : Going s) (id : ℕ) (v : W) → get_elem? s.views id ≡ some v → v.spent ≡ false → v.inside ≡ false → (words : List ℕ) → words ≡ s.words
      → Going record { words = words; homes = s.homes; views = set s.views id (learned v g.log) }
  learns_at s g id v at alive out words is = let l = mine s g id v at alive in let w : W = learned v g.log in
      moved s g id v at alive w alive refl refl g.next g.log words s.homes (is ∙ g.words) g.served g.is_legal g.met (λ j _. refl)
      record { stage = l.stage; number = l.number; opening = l.opening; seen = begins_self g.log; also = (g.log, refl); mine = l.mine; ticket = l.ticket; inside = λ i. absurd (true≢false (sym i ∙ out)) }
      (λ j u _ _ x. x)
      (λ j u t ne e a b. ne (g.apart j id u v t e at b a))
      (slot_stays s g id v at alive w out) (waiting_stays s g id v at alive w refl) (few_stays s g id v at alive w refl)

  pub learns : (slots id : ℕ) (me : Me (Option V) W) → me.0.stage ≡ Ready → me.0.spent ≡ false → me.0.inside ≡ false
      → Allows Kept slots id me 1 (λ n. n) (Learns legal may (step slots 1 0 0 none) me)
  learns slots id me ready alive out s kept wide at _ =
      let v : W = me.0 in let g = not_building s id v ready at kept in
      (learned v g.log, keeps, tt, inr (learns_at s g id v at alive out (set s.words 1 (get_or s.words 1 0)) (same_words s g)), (g.log, refl, tells s g id v at alive))

  -- the pass whose ticket is served takes the value
  enters : (s : St) (g : Going s) (id : ℕ) (v : W) (told : Option A) → get_elem? s.views id ≡ some v → v.spent ≡ false → v.inside ≡ false → v.ticket ≡ Some (length g.log) → length g.log < 1125899906842624
      → (y : V) × (get_elem? s.homes 0 ≡ some (some (Some y))) × reaches key g.log y × Going record { words = set s.words 1 (get_or s.words 1 0); homes = set s.homes 0 none; views = set s.views id (entered v g.log told) }
  enters s g id v told at alive out ticket early = let l = mine s g id v at alive in let w : W = entered v g.log told in ⊎_elim
      (λ x. let homes : set s.homes 0 none ≡ none ∷ [] = ap (λ (h : Homes). set h 0 none) x.1 in (
        x.0,
        ap (λ (h : Homes). get_elem? h 0) x.1,
        x.2,
        moved s g id v at alive w alive refl refl g.next g.log (set s.words 1 (get_or s.words 1 0)) (set s.homes 0 none) (same_words s g ∙ g.words) g.served g.is_legal g.met (λ j _. refl)
            record { stage = l.stage; number = l.number; opening = l.opening; seen = begins_self g.log; also = (g.log, refl); mine = l.mine; ticket = l.ticket; inside = λ _. (ticket, early, refl, homes) }
            (λ j u _ _ k. record { stage = k.stage; number = k.number; opening = k.opening; seen = k.seen; also = k.also; mine = k.mine; ticket = k.ticket; inside = λ i. let o = k.inside i in (o.0, o.1, o.2, homes) })
            (λ j u t ne e a b. ne (g.apart j id u v t e at b a))
            (inr (id, w, set_here s.views id w (at_below s.views id v at), refl)) (waiting_stays s g id v at alive w refl) (few_stays s g id v at alive w refl),
      ))
      (λ x. let j : ℕ = x.0 in let u : W = x.1 in let k = went_in s g id v at alive j u x.2 x.3 in let same : j ≡ id = g.apart j id u v (length g.log) x.2 at (has_first u (length g.log) (k.inside x.3).0) (has_first v (length g.log) ticket) in
      let is : u ≡ v = some-injective u v (sym x.2 ∙ subst (λ (n : ℕ). get_elem? s.views n ≡ some v) (sym same) at) in absurd (true≢false (sym x.3 ∙ (ap (λ (z : W). z.inside) is ∙ out)))) g.slot

  pub looks : (slots id : ℕ) (me : Me (Option V) W) (t : ℕ) (told : Option A) → me.0.stage ≡ Ready → me.0.spent ≡ false → me.0.inside ≡ false → me.0.ticket ≡ Some t → t < 1125899906842624
      → Allows Kept slots id me 1 (λ n. n) (Looks legal may reaches told (step slots 1 0 0 none) me)
  unfolding tells
  looks slots id me t told ready alive out ticket early s kept wide at _ =
      let v : W = me.0 in let g = not_building s id v ready at kept in let n : ℕ = get_or s.words 1 0 in let is : n ≡ length g.log = ap (λ ws. get_or ws 1 0) g.words in
      dite (ℕ_discrete t n)
      (λ hit. let has : v.ticket ≡ Some (length g.log) = ticket ∙ ap Some (hit ∙ is) in let x = enters s g id v told at alive out has (let e : length g.log ≡ t = sym (hit ∙ is) in omega arith) in (
        entered v g.log told,
        takes 0 (Some x.0),
        x.1,
        inr x.3,
        ((λ miss. absurd (miss (ticket ∙ ap Some hit))), λ _. (g.log, x.0, refl, sym is, tells s g id v at alive, x.2)),
      ))
      (λ miss. (
        v,
        keeps,
        tt,
        inr (same_state s id v (set s.words 1 n) (same_words s g) at g),
        ((λ _. refl), λ hit. absurd (miss (some_is t n (sym ticket ∙ hit)))),
      ))

  -- the pass that is inside gives the value back, and its call is the last of the history
  pub leaves : (slots id : ℕ) (me : Me (Option V) W) (first y : V) (a : A) (r : R) (told : Option R) → me.0.stage ≡ Ready → me.0.spent ≡ false → me.0.inside ≡ true → me.0.asked ≡ Some a → told ≡ Some r
      → me.0.opening ≡ Some first → me.1 ≡ (0, Some y) ∷ [] → may first me.0.mine a
      → legal first (me.0.seen ++ entry me.0.number a r ∷ []) → reaches first (me.0.seen ++ entry me.0.number a r ∷ []) y
      → Allows Kept slots id me 1 (λ n. (n + 1) % 18446744073709551616) (Leaves legal may told (step slots 1 1 0 none) me)
  leaves slots id me first y a r told ready alive in_ asked says opening holds allowed lg st s kept wide at _ =
      let v : W = me.0 in let g = not_building s id v ready at kept in let l = mine s g id v at alive in let in' = l.inside in_ in
      let e : E = entry v.number a r in let w : W = left v e in let log : List E = g.log ++ e ∷ [] in
      let seen : v.seen ++ e ∷ [] ≡ log = ap (λ (x : List E). x ++ e ∷ []) in'.2 in
      let first_is : first ≡ key = some_is first key (sym opening ∙ l.opening) in
      let long : length log ≡ length g.log + 1 = length-append g.log (e ∷ []) in
      let lg' : legal key log = subst (λ (x : V × List E). legal x.0 x.1) (λ i. (first_is i, seen i)) lg in
      let st' : reaches key log y = subst (λ (x : V × List E). reaches x.0 x.1 y) (λ i. (first_is i, seen i)) st in
      let n : ℕ = get_or s.words 1 0 in let is : n ≡ length g.log = ap (λ ws. get_or ws 1 0) g.words in
      let early : length g.log < 1125899906842624 = in'.1 in let due = (l.ticket (length g.log) (has_first v (length g.log) in'.0)).1 in
      let fits : length g.log + 1 < 18446744073709551616 = omega arith in
      let homes : put_back s.homes me.1 ≡ some (Some y) ∷ [] = ap₂ put_back in'.3 holds in
      let own_e : own e.pass g.log ≡ v.mine = ap (λ (k : ℕ). own k g.log) l.number ∙ l.mine in
      let has : HasTicket v (length g.log) = has_first v (length g.log) in'.0 in
      let after : (t : ℕ) → HasTicket w t → HasTicket v t × (length g.log < t) = λ t h. after_among v.ticket v.more (length g.log) t in'.0 h in (
        w,
        gives,
        tt,
        inr (moved s g id v at alive w alive refl refl g.next log (set s.words 1 ((n + 1) % 18446744073709551616)) (put_back s.homes me.1)
            (ap (λ ws. set ws 1 ((get_or ws 1 0 + 1) % 18446744073709551616)) g.words ∙ ap (λ k. g.next ∷ k ∷ []) (mod-eq_of_lt fits ∙ sym long))
            (omega arith) lg' (next g.log e g.met (subst (λ (x : V × List E). may x.0 x.1 a) (λ i. (first_is i, sym own_e i)) allowed))
            (λ j ne. own_other v.number j a r g.log (λ q. ne (sym (sym l.number ∙ q))))
            record {
              stage = l.stage;
              number = l.number;
              opening = l.opening;
              seen = ([], append-nil (v.seen ++ e ∷ []) ∙ seen);
              also = (log, refl);
              mine = ap (λ (k : ℕ). own k log) (sym l.number) ∙ own_mine v.number a r g.log ∙ ap (λ (x : List E). x ++ e ∷ []) own_e;
              ticket = λ t h. let x = after t h in let behind = x.1 in let old = l.ticket t x.0 in ((rw long (omega arith)), old.1);
              inside = λ i. absurd (true≢false (sym i));
            }
            (λ j u ne e' k. record {
              stage = k.stage;
              number = k.number;
              opening = k.opening;
              seen = begins_more u.seen g.log (e ∷ []) k.seen;
              also = begins_more u.also g.log (e ∷ []) k.also;
              mine = own_other v.number j a r g.log (λ q. ne (sym (sym l.number ∙ q))) ∙ k.mine;
              ticket = λ t h. let old = k.ticket t h in let o : length g.log ≤ t = old.0 in let apart : length g.log ≢ t = λ q. ne (g.apart j id u v t e' at h (subst (λ k. HasTicket v k) q has)) in ((rw long (omega arith)), old.1);
              inside = λ i. absurd (ne (g.apart j id u v (length g.log) e' at (has_first u (length g.log) (k.inside i).0) has));
            })
            (λ j u t ne e' mine' theirs. ne (g.apart j id u v t e' at theirs (after t mine').0))
            (inl (y, homes, st')) (let q = total_set waits s.views id v w at in let one : waits v ≡ waits w + 1 = after_placed v.ticket v.more (length g.log) in'.0 early in let h = g.waiting in subst (HavePlaces g.next) (omega arith) h)
            (few_stays s g id v at alive w (ap (λ k. cond v.spent 65536 k) (after_late v.ticket v.more (length g.log) in'.0 early)))),
        λ a' r' q q'. λ i. (left v (entry v.number (some_is a a' (sym asked ∙ q) i) (some_is r r' (sym says ∙ q') i)), ap rest holds i),
      )
