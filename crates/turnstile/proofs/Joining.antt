-- Making a turnstile, splitting and joining its passes, and its end.
use Rattle.std.proofs.Common.{◌≡◌, ℕ, zero, suc, ◌+◌, ◌<◌, ◌≤◌, ◌≢◌, ◌⊎◌, cond, List, [], ◌∷◌, ◌++◌, length, get_or, set, Bool, true, false, Option, Some, None, sym, refl, ap, ap₂, ◌∙◌, subst, inl, inr, ⊎_elim, arith, length-append, length-set, true≢false}
use Rattle.std.proofs.lemmas.Option.{none-some}
use mathlib.Core.Option.{some, none, some-injective, some-ne-none}
use mathlib.Core.Option as maybe
use mathlib.Core.Logic.{dite}
use native.Mathlib.Decide.{ℕ_discrete}
use lib.ListN.{get_elem?}
use Rattle.atomic_table.specs.Table.{State, Me, step, takes, gives, Allows, Splits, Joins, rest, put_back, Final, Seen, opening}
use Rattle.atomic_table.proofs.Lists.{at_set, set_here, set_else, at_longer, at_last}
use Rattle.turnstile.specs.declared.entry.Entry.{Entry}
use Rattle.turnstile.specs.declared.view.View.{View}
use Rattle.turnstile.specs.declared.view.Stage.{Stage}
use Rattle.turnstile.specs.declared.view.Stage.TheVariants.{Empty, Open, Ready}
use Rattle.turnstile.specs.Entries.{Begins, entry, own, Met}
use Rattle.turnstile.specs.Entries as entries
use Rattle.turnstile.specs.Turns as turns
use Rattle.turnstile.specs.Turns.{newborn, opened, filled, parent, child, merged, gone, late, placed, HasTicket, waits, HavePlaces, ended, is_spent, total, Opens, Fills}
use Rattle.turnstile.proofs.Basics.{by_bool, is_ready, at_below, only_one, total_set, total_snoc, total_le, ended_le}
use Rattle.turnstile.proofs.Keeps as k

snoc_cases : {X : Type 0} (l : List X) (a b : X) (j : ℕ) → get_elem? (l ++ a ∷ []) j ≡ some b → (get_elem? l j ≡ some b) ⊎ ((j ≡ length l) × (a ≡ b))
snoc_cases [] a b zero e = inr (refl, some-injective a b e)
snoc_cases [] a b (suc j) e = absurd (some-ne-none b (sym e))
snoc_cases (x ∷ xs) a b zero e = inl e
snoc_cases (x ∷ xs) a b (suc j) e = ⊎_elim (λ h. inl h) (λ h. inr (ap suc h.0, h.1)) (snoc_cases xs a b j e)

first_of_one : {X : Type 0} (x a : X) (i : ℕ) → get_elem? (x ∷ []) i ≡ some a → i ≡ 0
first_of_one x a zero e = refl
first_of_one x a (suc i) e = absurd (some-ne-none a (sym e))

abbrev opens_stage : Stage → Bool
opens_stage Empty = false
opens_stage Open = true
opens_stage Ready = true

reach : {X : Type 0} (l : List X) (i : ℕ) → i < length l → (x : X) × (get_elem? l i ≡ some x)
reach [] i h = absurd (omega arith)
reach (x ∷ xs) zero h = (x, refl)
reach (x ∷ xs) (suc i) h = reach xs i (omega arith)

module _ {V A R : Type 0} where
  spent_le : (v : View V A R) → is_spent v ≤ 1
  spent_le v = by_bool v.spent (λ e. rw e (omega arith)) (λ e. rw e (omega arith))

  spent_one : (v : View V A R) → is_spent v ≡ 1 → v.spent ≡ true
  spent_one v e = by_bool v.spent (λ t. t) (λ f. let z : is_spent v ≡ 0 = ap (λ b. cond b 1 0) f in absurd (omega arith))

  every_spent : (l : List (View V A R)) → total is_spent l ≡ length l → (j : ℕ) (u : View V A R) → get_elem? l j ≡ some u → u.spent ≡ true
  every_spent [] e j u at = absurd (some-ne-none u (sym at))
  every_spent (x ∷ xs) e zero u at = let t = total_le is_spent spent_le xs in let h = spent_le x in spent_one u (ap is_spent (some-injective u x (sym at)) ∙ omega arith)
  every_spent (x ∷ xs) e (suc j) u at = let t = total_le is_spent spent_le xs in let h = spent_le x in every_spent xs (omega arith) j u at

  all_spent : (l : List (View V A R)) (v : View V A R) → get_elem? l 0 ≡ some v → v.spent ≡ false → total is_spent l + 1 ≡ length l → (j : ℕ) (u : View V A R) → get_elem? l j ≡ some u → 0 < j → u.spent ≡ true
  all_spent [] v at alive e j u at' pos = absurd (some-ne-none v (sym at))
  all_spent (x ∷ xs) v at alive e zero u at' pos = absurd (omega arith)
  all_spent (x ∷ xs) v at alive e (suc j) u at' pos = let z : is_spent x ≡ 0 = ap (λ (y : View V A R). is_spent y) (some-injective x v at) ∙ ap (λ b. cond b 1 0) alive in every_spent xs (omega arith) j u at'

module _ {V A R : Type 0} (legal : V → List (Entry A R) → Type 0) (reaches : V → List (Entry A R) → V → Type 0) (may : V → List (Entry A R) → A → Type 0) (clear : List (Entry A R) → Type 0) (key : V) where
  abbrev W : Type 0
  W = View V A R

  abbrev E : Type 0
  E = Entry A R

  abbrev St : Type 0
  St = State (Option V) W

  abbrev Homes : Type 0
  Homes = List (maybe.Option (Option V))

  abbrev Live : List E → Homes → ℕ → ℕ → W → Type 0
  Live = turns.Live legal reaches may clear key

  abbrev Gone : List E → List (ℕ × List E) → ℕ → W → Type 0
  Gone = turns.Gone legal reaches may clear key

  abbrev Fits : List E → Homes → ℕ → List (ℕ × List E) → ℕ → W → Type 0
  Fits = turns.Fits legal reaches may clear key

  abbrev Going : St → Type 0
  Going = turns.Going legal reaches may clear key

  abbrev Kept : St → Type 0
  Kept = turns.Kept legal reaches may clear key

  pub begins : Kept (opening (0 ∷ 0 ∷ []) (None ∷ []) (newborn key))
  begins = inl (refl, inl (refl, refl))

  -- a pass before the value is in its slot
  not_going : (s : St) (g : Going s) (id : ℕ) (v : W) → get_elem? s.views id ≡ some v → v.spent ≡ false → is_ready v.stage ≡ false → ⊥
  not_going s g id v at alive not_yet = true≢false (sym (ap is_ready ((g.fits id v at).live alive).stage) ∙ not_yet)

  pub opens : (slots id : ℕ) (me : Me (Option V) W) → me.0 ≡ newborn key → Allows Kept slots id me 1 (λ n. n) (Opens (step slots 1 0 0 none) me)
  opens slots id me fresh s kept wide at _ =
      let v : W = me.0 in
      let at' : get_elem? s.views id ≡ some (newborn key) = at ∙ ap (λ (z : W). some z) fresh in
      ⊎_elim
      (λ b. ⊎_elim
      (λ x. let one : get_elem? (newborn key ∷ []) id ≡ some (newborn key) = subst (λ (l : List W). get_elem? l id ≡ some (newborn key)) x.0 at' in (
        opened v,
        takes 0 None,
        ap (λ (h : Homes). get_elem? h 0) x.1,
        inl (ap (λ ws. set ws 1 (get_or ws 1 0)) b.0, inr ((λ i. set (x.0 i) (first_of_one (newborn key) (newborn key) id one i) (opened (fresh i))), ap (λ (h : Homes). set h 0 none) x.1)),
        (refl, refl),
      ))
      (λ x. let is : opened (newborn key) ≡ newborn key = only_one _ _ id (subst (λ (l : List W). get_elem? l id ≡ some (newborn key)) x.0 at') in absurd (true≢false (ap (λ (z : W). opens_stage z.stage) is))) b.1)
      (λ g. absurd (not_going s g id (newborn key) at' refl refl)) kept

  pub fills : (slots id : ℕ) (me : Me (Option V) W) → me.0 ≡ opened (newborn key) → me.1 ≡ (0, Some key) ∷ [] → legal key [] → reaches key [] key → Allows Kept slots id me 1 (λ n. n) (Fills (step slots 1 0 0 none) me)
  fills slots id me fresh holds lg st s kept wide at _ =
      let v : W = me.0 in let new : W = filled (opened (newborn key)) in
      let at' : get_elem? s.views id ≡ some (opened (newborn key)) = at ∙ ap (λ (z : W). some z) fresh in
      let done : Going record { words = 0 ∷ 0 ∷ []; homes = some (Some key) ∷ []; views = new ∷ [] } = record {
        log = [];
        next = 0;
        splits = 0;
        joined = [];
        words = refl;
        served = omega arith;
        is_legal = lg;
        met = entries.none;
        fits = λ j u e. let is = only_one new u j e in let j0 = first_of_one new u j e in subst (λ (y : ℕ × W). Fits [] (some (Some key) ∷ []) 0 [] y.0 y.1) (λ i. (sym j0 i, is i)) record {
          live = λ _. record { stage = refl; number = refl; opening = refl; seen = ([], refl); also = ([], refl); mine = refl; ticket = λ t h. absurd (none-some h.0 h.1); inside = λ i. absurd (true≢false (sym i)) };
          gone = λ sp. absurd (true≢false (sym sp));
        };
        later = λ j le. refl;
        apart = λ i j a b t ei ej ta tb. first_of_one new a i ei ∙ sym (first_of_one new b j ej);
        slot = inl (key, refl, st);
        waiting = ((λ _. refl), λ big. absurd (omega arith));
        few = omega arith;
        count = omega arith;
        room = omega arith;
        root = λ u e. let is = only_one new u 0 e in (sym (ap (λ (z : W). z.spent) is), sym (ap (λ (z : W). z.splits) is), sym (ap (λ (z : W). z.joined) is));
        others = λ j u e pos. let j0 = first_of_one new u j e in absurd (omega arith);
        all = refl;
        listed = λ i x e. absurd (some-ne-none x (sym e));
      } in ⊎_elim
      (λ b. ⊎_elim
      (λ x. let is : newborn key ≡ opened (newborn key) = only_one _ _ id (subst (λ (l : List W). get_elem? l id ≡ some (opened (newborn key))) x.0 at') in absurd (true≢false (sym (ap (λ (z : W). opens_stage z.stage) is))))
      (λ x. let one : get_elem? (opened (newborn key) ∷ []) id ≡ some (opened (newborn key)) = subst (λ (l : List W). get_elem? l id ≡ some (opened (newborn key))) x.0 at' in
      let ws : set s.words 1 (get_or s.words 1 0) ≡ 0 ∷ 0 ∷ [] = ap (λ ws. set ws 1 (get_or ws 1 0)) b.0 in
      let hs : put_back s.homes me.1 ≡ some (Some key) ∷ [] = ap₂ put_back x.1 holds in
      let vs : set s.views id (filled v) ≡ new ∷ [] = λ i. set (x.0 i) (first_of_one (opened (newborn key)) (opened (newborn key)) id one i) (filled (fresh i)) in (
        filled v,
        gives,
        tt,
        inr (subst (λ (x : List ℕ × Homes × List W). Going record { words = x.0; homes = x.1; views = x.2 }) (λ i. (sym ws i, sym hs i, sym vs i)) done),
        (λ i. (filled v, ap rest holds i)),
      )) b.1)
      (λ g. absurd (not_going s g id (opened (newborn key)) at' refl refl)) kept

  -- u is o but for what it has split and joined
  record Like (log : List E) (homes : Homes) (nx j : ℕ) (o u : W) : Type 0 where
    ticket : u.ticket ≡ o.ticket
    more : u.more ≡ o.more
    inside : u.inside ≡ o.inside
    spent : u.spent ≡ o.spent
    number : u.number ≡ o.number
    live : Live log homes nx j o → Live log homes nx j u

  like_self : (log : List E) (homes : Homes) (nx j : ℕ) (o : W) → Like log homes nx j o o
  like_self log homes nx j o = record { ticket = refl; more = refl; inside = refl; spent = refl; number = refl; live = λ l. l }

  like_parent : (log : List E) (homes : Homes) (nx j : ℕ) (o : W) → Like log homes nx j o (parent o)
  like_parent log homes nx j o = record { ticket = refl; more = refl; inside = refl; spent = refl; number = refl; live = λ l. record { stage = l.stage; number = l.number; opening = l.opening; seen = l.seen; also = l.also; mine = l.mine; ticket = l.ticket; inside = l.inside } }

  like_merged : (log : List E) (homes : Homes) (nx j : ℕ) (o w : W) → Begins w.seen log → Like log homes nx j o (merged o w)
  like_merged log homes nx j o w begins_too = record { ticket = refl; more = refl; inside = refl; spent = refl; number = refl; live = λ l. record { stage = l.stage; number = l.number; opening = l.opening; seen = l.seen; also = begins_too; mine = l.mine; ticket = l.ticket; inside = l.inside } }

  like_has : (log : List E) (homes : Homes) (nx j : ℕ) (o u : W) (t : ℕ) → Like log homes nx j o u → HasTicket u t → HasTicket o t
  like_has log homes nx j o u t k h = (h.0, sym k.ticket ∙ h.1, h.2, subst (λ m. t ≤ h.0 + m) k.more h.3)

  module _ (s : St) (g : Going s) (id : ℕ) (v : W) (at : get_elem? s.views id ≡ some v) (alive : v.spent ≡ false) (first : v.number ≡ 0) where
    own_view : Live g.log s.homes g.next id v
    own_view = (g.fits id v at).live alive

    is_first : id ≡ 0
    is_first = sym own_view.number ∙ first

    rooted : (v.spent ≡ false) × (v.splits ≡ g.splits) × (v.joined ≡ g.joined)
    rooted = g.root v (subst (λ (n : ℕ). get_elem? s.views n ≡ some v) is_first at)

    abbrev split_views : List W
    split_views = set s.views id (parent v) ++ child v ∷ []

    abbrev Was : ℕ → W → Type 0
    Was j u = (o : W) × (get_elem? s.views j ≡ some o) × Like g.log s.homes g.next j o u × ((j ≡ id) → o ≡ v) × (j ≢ id → u ≡ o)

    -- a view after this pass's became w, which is like it
    set_was : (w : W) → Like g.log s.homes g.next id v w → (j : ℕ) (u : W) → get_elem? (set s.views id w) j ≡ some u → Was j u
    set_was w like j u e = ⊎_elim
        (λ y. (v, subst (λ (n : ℕ). get_elem? s.views n ≡ some v) (sym y.0) at, subst (λ (z : ℕ × W). Like g.log s.homes g.next z.0 v z.1) (λ i. (sym y.0 i, y.1 i)) like, (λ _. refl), (λ ne. absurd (ne y.0))))
        (λ y. (u, y.1, like_self g.log s.homes g.next j u, (λ q. absurd (y.0 q)), (λ _. refl))) (at_set s.views id j w u e)

    -- a view after the split is the new one, or was there before
    split_was : (j : ℕ) (u : W) → get_elem? split_views j ≡ some u → ((j ≡ length s.views) × (child v ≡ u)) ⊎ Was j u
    split_was j u e = ⊎_elim
        (λ x. inr (set_was (parent v) (like_parent g.log s.homes g.next id v) j u x))
        (λ x. inl (x.0 ∙ length-set s.views id (parent v), x.1)) (snoc_cases (set s.views id (parent v)) (child v) u j e)

    here : id < length s.views
    here = at_below s.views id v at

    split_live : Live g.log s.homes g.next (length s.views) (child v)
    split_live = let l = own_view in let r = rooted in let c = g.count in record {
      stage = refl;
      number = (let x : v.splits ≡ g.splits = r.1 in omega arith);
      opening = l.opening;
      seen = l.seen;
      also = (g.log, refl);
      mine = g.later (length s.views) (omega arith);
      ticket = λ t h. absurd (none-some h.0 h.1);
      inside = λ i. absurd (true≢false (sym i));
    }

    splits_at : v.splits < 4294967296 → Going record { words = s.words; homes = s.homes; views = split_views }
    splits_at more = let r = rooted in let long : length split_views ≡ length s.views + 1 = length-append (set s.views id (parent v)) (child v ∷ []) ∙ ap (λ (n : ℕ). n + 1) (length-set s.views id (parent v)) in
        let c = g.count in let same_splits : v.splits ≡ g.splits = r.1 in record {
          log = g.log;
          next = g.next;
          splits = g.splits + 1;
          joined = g.joined;
          words = g.words;
          served = g.served;
          is_legal = g.is_legal;
          met = g.met;
          fits = λ j u e. ⊎_elim
              (λ x. subst (λ (y : ℕ × W). Fits g.log s.homes g.next g.joined y.0 y.1) (λ i. (sym x.0 i, x.1 i)) record { live = λ _. split_live; gone = λ sp. absurd (true≢false (sym sp)) })
              (λ x. let f = g.fits j x.0 x.1 in let k = x.2 in record { live = λ a. k.live (f.live (sym k.spent ∙ a)); gone = λ sp. let o = f.gone (sym k.spent ∙ sp) in record { cleared = o.cleared; ticket = k.ticket ∙ o.ticket; inside = k.inside ∙ o.inside; listed = o.listed } })
              (split_was j u e);
          later = λ j le. g.later j (omega arith);
          apart = λ i j a b t ei ej ta tb. ⊎_elim
              (λ x. absurd (none-some ta.0 (ap (λ (z : W). z.ticket) x.1 ∙ ta.1)))
              (λ x. ⊎_elim (λ y. absurd (none-some tb.0 (ap (λ (z : W). z.ticket) y.1 ∙ tb.1))) (λ y. g.apart i j x.0 y.0 t x.1 y.1 (like_has g.log s.homes g.next i x.0 a t x.2 ta) (like_has g.log s.homes g.next j y.0 b t y.2 tb)) (split_was j b ej)) (split_was i a ei);
          slot = ⊎_elim (λ x. inl x)
              (λ x. dite (ℕ_discrete x.0 id)
              (λ same. inr (
                id,
                parent v,
                at_longer (set s.views id (parent v)) (child v ∷ []) id (parent v) (set_here s.views id (parent v) here),
                ap (λ (z : W). z.inside) (some-injective v x.1 (sym (subst (λ (n : ℕ). get_elem? s.views n ≡ some v) (sym same) at) ∙ x.2)) ∙ x.3,
              ))
              (λ other. inr (x.0, x.1, at_longer (set s.views id (parent v)) (child v ∷ []) x.0 x.1 (set_else s.views id x.0 (parent v) other ∙ x.2), x.3))) g.slot;
          waiting = let t = total_snoc waits (set s.views id (parent v)) (child v) in let u = total_set waits s.views id v (parent v) at in let h = g.waiting in subst (HavePlaces g.next) (omega arith) h;
          few = let t = total_snoc ended (set s.views id (parent v)) (child v) in let u = total_set ended s.views id v (parent v) at in let f = g.few in omega arith;
          count = omega arith;
          room = omega arith;
          root = λ u e. ⊎_elim (λ x. let z : 0 ≡ length s.views = x.0 in absurd (omega arith))
              (λ x. let is : parent v ≡ u = some-injective (parent v) u (sym (at_longer (set s.views id (parent v)) (child v ∷ []) 0 (parent v) (subst (λ (n : ℕ). get_elem? (set s.views id (parent v)) n ≡ some (parent v)) is_first (set_here s.views id (parent v) here))) ∙ e) in
              (sym (ap (λ (z : W). z.spent) is) ∙ alive, sym (ap (λ (z : W). z.splits) is) ∙ ap (λ (n : ℕ). n + 1) same_splits, sym (ap (λ (z : W). z.joined) is) ∙ r.2)) (split_was 0 u e);
          others = λ j u e pos. ⊎_elim (λ x. sym (ap (λ (z : W). z.joined) x.1)) (λ x. ap (λ (z : W). z.joined) (x.4 (λ q. let z : id ≡ 0 = is_first in omega arith)) ∙ g.others j x.0 x.1 pos) (split_was j u e);
          all = let t = total_snoc is_spent (set s.views id (parent v)) (child v) in let u = total_set is_spent s.views id v (parent v) at in let a = g.all in omega arith;
          listed = λ i x e. let old = g.listed i x e in (old.0, (λ u e'. ⊎_elim (λ y. let z : x.0 ≡ length s.views = y.0 in let b = old.2 in absurd (omega arith)) (λ y. y.2.spent ∙ old.1 y.0 y.1) (split_was x.0 u e')), (let b = old.2 in omega arith));
        }

  pub splits : (id : ℕ) (v : W) → v.stage ≡ Ready → v.spent ≡ false → v.number ≡ 0 → v.splits < 4294967296 → Splits Kept id v (parent v) (child v)
  splits id v ready alive first more s kept at = let g = k.not_building legal reaches may clear key s id v ready at kept in inr (splits_at s g id v at alive first more)

  module _ (s : St) (g : Going s) (id : ℕ) (v : W) (at : get_elem? s.views id ≡ some v) (alive : v.spent ≡ false) (first : v.number ≡ 0) (oid : ℕ) (w : W) (apart : oid ≢ id) (oat : get_elem? s.views oid ≡ some w) (oalive : w.spent ≡ false) (out : w.inside ≡ false) (idle : placed w.ticket w.more ≡ 0) (rid : clear w.mine) where
    theirs : Live g.log s.homes g.next oid w
    theirs = (g.fits oid w oat).live oalive

    abbrev both_views : List W
    both_views = set s.views id (merged v w)

    abbrev join_views : List W
    join_views = set both_views oid gone

    abbrev joined_now : List (ℕ × List E)
    joined_now = g.joined ++ (w.number, w.mine) ∷ []

    join_was : (j : ℕ) (u : W) → get_elem? join_views j ≡ some u → ((j ≡ oid) × (gone ≡ u)) ⊎ ((j ≢ oid) × Was s g id v at alive first j u)
    join_was j u e = ⊎_elim (λ x. inl x)
        (λ x. inr (x.0, set_was s g id v at alive first (merged v w) (like_merged g.log s.homes g.next id v w theirs.seen) j u x.1)) (at_set both_views oid j gone u e)

    join_gone : Gone g.log joined_now oid gone
    join_gone = record {
      cleared = subst clear (sym theirs.mine) rid;
      ticket = refl;
      inside = refl;
      listed = (length g.joined, at_last g.joined (w.number, w.mine) (length g.joined) refl ∙ (λ i. some (theirs.number i, sym theirs.mine i)));
    }

    both_at : get_elem? both_views oid ≡ some w
    both_at = set_else s.views id oid (merged v w) apart ∙ oat

    joins_at : Going record { words = s.words; homes = s.homes; views = join_views }
    joins_at = let r = rooted s g id v at alive first in let long : length join_views ≡ length s.views = length-set both_views oid gone ∙ length-set s.views id (merged v w) in
        let c = g.count in let zero_is : id ≡ 0 = is_first s g id v at alive first in
        let all_at : get_elem? both_views id ≡ some (merged v w) = set_here s.views id (merged v w) (at_below s.views id v at) in record {
          log = g.log;
          next = g.next;
          splits = g.splits;
          joined = joined_now;
          words = g.words;
          served = g.served;
          is_legal = g.is_legal;
          met = g.met;
          fits = λ j u e. ⊎_elim
              (λ x. subst (λ (y : ℕ × W). Fits g.log s.homes g.next joined_now y.0 y.1) (λ i. (sym x.0 i, x.1 i)) record { live = λ a. absurd (true≢false a); gone = λ _. join_gone })
              (λ x. let y = x.1 in let f = g.fits j y.0 y.1 in let k = y.2 in record {
                live = λ a. k.live (f.live (sym k.spent ∙ a));
                gone = λ sp. let o = f.gone (sym k.spent ∙ sp) in record { cleared = o.cleared; ticket = k.ticket ∙ o.ticket; inside = k.inside ∙ o.inside; listed = (o.listed.0, at_longer g.joined ((w.number, w.mine) ∷ []) o.listed.0 (j, own j g.log) o.listed.1) };
              }) (join_was j u e);
          later = λ j le. g.later j (omega arith);
          apart = λ i j a b t ei ej ta tb. ⊎_elim
              (λ x. absurd (none-some ta.0 (ap (λ (z : W). z.ticket) x.1 ∙ ta.1)))
              (λ x. ⊎_elim (λ y. absurd (none-some tb.0 (ap (λ (z : W). z.ticket) y.1 ∙ tb.1))) (λ y. g.apart i j x.1.0 y.1.0 t x.1.1 y.1.1 (like_has g.log s.homes g.next i x.1.0 a t x.1.2 ta) (like_has g.log s.homes g.next j y.1.0 b t y.1.2 tb)) (join_was j b ej)) (join_was i a ei);
          slot = ⊎_elim (λ x. inl x)
              (λ x. let ne : x.0 ≢ oid = λ q. true≢false (sym x.3 ∙ (ap (λ (z : W). z.inside) (some-injective x.1 w (sym x.2 ∙ subst (λ (n : ℕ). get_elem? s.views n ≡ some w) (sym q) oat)) ∙ out)) in
              dite (ℕ_discrete x.0 id)
              (λ same. inr (
                id,
                merged v w,
                set_else both_views oid id gone (λ q. apart (sym q)) ∙ all_at,
                ap (λ (z : W). z.inside) (some-injective v x.1 (sym (subst (λ (n : ℕ). get_elem? s.views n ≡ some v) (sym same) at) ∙ x.2)) ∙ x.3,
              ))
              (λ other. inr (x.0, x.1, set_else both_views oid x.0 gone ne ∙ (set_else s.views id x.0 (merged v w) other ∙ x.2), x.3))) g.slot;
          waiting = let t = total_set waits both_views oid w gone both_at in let u = total_set waits s.views id v (merged v w) at in let h = g.waiting in subst (HavePlaces g.next) (omega arith) h;
          few = let t = total_set ended both_views oid w gone both_at in let u = total_set ended s.views id v (merged v w) at in let f = g.few in let l = ended_le w.spent w.ticket w.more in omega arith;
          count = long ∙ c;
          room = g.room;
          root = λ u e. let is : merged v w ≡ u = some-injective (merged v w) u (sym (subst (λ (n : ℕ). get_elem? join_views n ≡ some (merged v w)) zero_is (set_else both_views oid id gone (λ q. apart (sym q)) ∙ all_at)) ∙ e) in
              (sym (ap (λ (z : W). z.spent) is) ∙ alive, sym (ap (λ (z : W). z.splits) is) ∙ r.1, sym (ap (λ (z : W). z.joined) is) ∙ ap (λ (x : List (ℕ × List E)). x ++ (w.number, w.mine) ∷ []) r.2);
          others = λ j u e pos. ⊎_elim (λ x. sym (ap (λ (z : W). z.joined) x.1)) (λ x. let y = x.1 in ap (λ (z : W). z.joined) (y.4 (λ q. omega arith)) ∙ g.others j y.0 y.1 pos) (join_was j u e);
          all = let t = total_set is_spent both_views oid w gone both_at in let u = total_set is_spent s.views id v (merged v w) at in let a = g.all in let z : is_spent w ≡ 0 = ap (λ b. cond b 1 0) oalive in
              let len = length-append g.joined ((w.number, w.mine) ∷ []) in omega arith;
          listed = λ i x e. ⊎_elim
              (λ o. let old = g.listed i x o in (old.0, (λ u e'. ⊎_elim (λ y. sym (ap (λ (z : W). z.spent) y.1)) (λ y. y.1.2.spent ∙ old.1 y.1.0 y.1.1) (join_was x.0 u e')), (let b = old.2 in omega arith)))
              (λ o. let is : (w.number, w.mine) ≡ x = o.1 in let who : x.0 ≡ oid = ap (λ (z : ℕ × List E). z.0) (sym is) ∙ theirs.number in (
                ap (λ (n : ℕ). own n g.log) who ∙ (theirs.mine ∙ ap (λ (z : ℕ × List E). z.1) is),
                (λ u e'. ⊎_elim (λ y. sym (ap (λ (z : W). z.spent) y.1)) (λ y. absurd (y.0 who)) (join_was x.0 u e')),
                (let b = at_below s.views oid w oat in omega arith),
              )) (snoc_cases g.joined (w.number, w.mine) x i e);
        }

  pub joins : (id : ℕ) (v : W) (oid : ℕ) (w : W) → v.stage ≡ Ready → v.spent ≡ false → v.number ≡ 0 → w.spent ≡ false → w.inside ≡ false → placed w.ticket w.more ≡ 0 → clear w.mine → Joins Kept id v oid w (merged v w) gone
  joins id v oid w ready alive first oalive out idle rid s kept at apart oat = let g = k.not_building legal reaches may clear key s id v ready at kept in
      inr (joins_at s g id v at alive first oid w apart (sym (set_else s.views id oid (merged v w) apart) ∙ oat) oalive out idle rid)

  -- the value at the end, once every other pass was joined
  closes_at : (s : St) (g : Going s) (v : W) → get_elem? s.views 0 ≡ some v → v.spent ≡ false → v.inside ≡ false → length v.joined ≡ v.splits → clear v.mine
      → (y : V) × (s.homes ≡ some (Some y) ∷ []) × turns.Ended legal reaches may clear v key y
  closes_at s g v at alive out whole rid =
      let l = (g.fits 0 v at).live alive in let r = g.root v at in let c = g.count in let a = g.all in
      let same_splits : v.splits ≡ g.splits = r.1 in let same_joined : length v.joined ≡ length g.joined = ap length r.2 in
      let rest_spent = all_spent s.views v at alive (omega arith) in ⊎_elim
      (λ x. (
        x.0,
        x.1,
        record {
          log = g.log;
          is_legal = g.is_legal;
          met = g.met;
          stood = x.2;
          seen = l.seen;
          mine = l.mine;
          joined = λ i z e. (g.listed i z (ap (λ (js : List (ℕ × List E)). get_elem? js i) (sym r.2) ∙ e)).0;
          each = λ p le. dite (ℕ_discrete p 0)
              (λ z. subst clear (ap (λ (n : ℕ). own n g.log) (sym z) ∙ refl) (subst clear (sym l.mine) rid))
              (λ nz. let pos : 0 < p = omega arith in let found = reach s.views p (omega arith) in ((g.fits p found.0 found.1).gone (rest_spent p found.0 found.1 pos)).cleared);
          all = λ p pos le. let found = reach s.views p (omega arith) in let here = ((g.fits p found.0 found.1).gone (rest_spent p found.0 found.1 pos)).listed in
              (here.0, ap (λ (js : List (ℕ × List E)). get_elem? js here.0) r.2 ∙ here.1);
          no_other = λ p lt. g.later p (omega arith);
        },
      ))
      (λ x. dite (ℕ_discrete x.0 0)
      (λ z. absurd (true≢false (sym x.3 ∙ (ap (λ (u : W). u.inside) (some-injective x.1 v (sym x.2 ∙ subst (λ (n : ℕ). get_elem? s.views n ≡ some v) (sym z) at)) ∙ out))))
      (λ nz. let pos : 0 < x.0 = omega arith in let gone_ = (g.fits x.0 x.1 x.2).gone (rest_spent x.0 x.1 x.2 pos) in absurd (true≢false (sym x.3 ∙ gone_.inside)))) g.slot

  -- what the last slot has, where the table is closed with the first pass
  pub closes : (id : ℕ) (v : W) (ws : List ℕ) (xs : List (Option V)) → v.stage ≡ Ready → v.spent ≡ false → v.inside ≡ false → v.number ≡ 0 → length v.joined ≡ v.splits → clear v.mine
      → Final (Seen Kept id v) ws xs → (y : V) × (get_elem? xs 0 ≡ some (Some y)) × turns.Ended legal reaches may clear v key y
  closes id v ws xs ready alive out first whole rid f = let s = f.0 in let kept = f.1.0 in let at = f.1.1 in let g = k.not_building legal reaches may clear key s id v ready at kept in
      let zero_is = is_first s g id v at alive first in let e = closes_at s g v (subst (λ (n : ℕ). get_elem? s.views n ≡ some v) zero_is at) alive out whole rid in
      (e.0, f.4 0 (Some e.0) (ap (λ (h : Homes). get_elem? h 0) e.1), e.2)
