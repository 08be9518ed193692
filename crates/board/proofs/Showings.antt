-- All components are shown, one after another.
use Rattle.std.proofs.Common.{◌≡◌, inl, inr, ℕ, ◌+◌, ◌-◌, ◌<◌, ◌≤◌, ◌^◌, ◌∙◌, sym, ap, subst, refl, length, length-set, slice_get, set, map, zero, suc, Some, List, [], ◌∷◌, ◌++◌, arith}
use Rattle.std.proofs.lemmas.Bool.{cases_eq}
use Rattle.std.proofs.lemmas.Option.{slice_get_within}
use Rattle.il_machine.specs.declared.answer.Progress.{Progress as Reached}
use Rattle.il_machine.specs.Look.{look}
use Rattle.il_machine.specs.Components.{state_answer}
use Rattle.il_machine.specs.Whole.{Stands}
use Rattle.il_graph.specs.Shown.{kept}
use Rattle.std.specs.Vec.{with_item}
use Rattle.omx_types.specs.declared.state.State.{State}
use Rattle.omx_types.specs.declared.state.State.TheVariants.{Invalid}
use Rattle.state_words.specs.Tokens.{IsShowerOf, known_by}
use Rattle.state_words.specs.declared.words.Shower.{Shower}
use Rattle.state_words.specs.Shown.{States, states_of, version_of, last_or, after}
use Rattle.graph_acts.specs.declared.served.Served.{Served}
use Rattle.board.specs.declared.watched.Watched.{Watched}
use Rattle.board.specs.Watching.{one_more}
use Rattle.board.specs.Histories.{known_of, words_of, IsTidy, HasVersions}
use Rattle.board.specs.Showing.{ShowsAt, ShowsUpTo, ShowsChanges}

module _ {S K C : Type 0} (progress : C → Reached) where
  pub shows_none : (old : Watched S K C) → IsTidy old → ShowsUpTo progress 0 old old
  shows_none old T = record { served = refl; words = refl; handles = refl; tidy = T; done = λ k lt w h s e. absurd (omega arith); left = λ k le. refl; versions = λ k. omega arith }

  pub shows_next : (i : ℕ) (old mid new : Watched S K C) → ShowsUpTo progress i old mid → ShowsAt progress i mid new → ShowsUpTo progress (i + 1) old new
  shows_next i old mid new U A =
      let g = ap (λ (s : Served S K C). s.graph) U.served in
      record {
        served = A.served ∙ U.served;
        words = A.words ∙ U.words;
        handles = A.handles ∙ U.handles;
        tidy = A.tidy;
        done = λ k lt w h s e. elim (cases_eq k i) [
          | inl is ↦
              let here = A.here w h (subst (λ n. Stands (kept progress n) w) (sym g) s) (subst (λ j. slice_get mid.handles.items j ≡ Some h) is (subst (λ hs. slice_get hs k ≡ Some h) (sym U.handles) e)) in
              let same = U.left i (omega arith) in
              subst (λ j. states_of (known_of new) j ≡ one_more (state_answer h (look w)) (states_of (known_of old) j)) (sym is) (here ∙ ap (one_more (state_answer h (look w))) same)
          | inr ne ↦ A.others k (λ is. absurd (omega (arith, is, ne))) ∙ U.done k (omega (arith, lt, ne)) w h s e
        ];
        left = λ k le. A.others k (λ is. absurd (omega (arith, is, le))) ∙ U.left k (omega (arith, le));
        versions = λ k. elim (cases_eq k i) [
          | inl is ↦
              let same : version_of (known_of mid) i ≡ version_of (known_of old) i = ap (λ (l : States). length l - 1) (U.left i (omega arith)) in
              subst (λ j. version_of (known_of new) j ≤ version_of (known_of old) j + 1) (sym is) (omega (arith, A.version, same))
          | inr ne ↦
              let same : version_of (known_of new) k ≡ version_of (known_of mid) k = ap (λ (l : States). length l - 1) (A.others k (λ is. absurd (omega (arith, is, ne)))) in
              omega (arith, same, U.versions k)
        ];
      }

  pub shows_room : (i place : ℕ) (old mid : Watched S K C) → ShowsUpTo progress i old mid → HasVersions (known_of old) place → place < 2 ^ 50 → version_of (known_of mid) i < 2 ^ 60
  shows_room i place old mid U V t = omega (arith, U.versions i, V i, t)

  pub shows_all : (n : ℕ) (old new : Watched S K C) → IsTidy old → length old.handles.items ≤ n → ShowsUpTo progress n old new → ShowsChanges progress old new
  shows_all n old new T le U = record {
    served = U.served;
    words = U.words;
    handles = U.handles;
    tidy = U.tidy;
    seen = λ w s. record {
      count = U.tidy.count ∙ (ap length U.handles ∙ sym T.count);
      each = λ i h e. let lt : i < length old.handles.items = slice_get_within old.handles.items i h e in U.done i (omega (arith, lt, le)) w h s e;
    };
    versions = λ m V i. omega (arith, U.versions i, V i);
  }

-- ---- one state more

last_snoc : (d : State) (l : States) (x : State) → last_or d (l ++ x ∷ []) ≡ x
last_snoc d [] x = refl
last_snoc d (y ∷ ys) x = last_snoc y ys x

map_set : {X Y : Type 0} (f : X → Y) (xs : List X) (i : ℕ) (x : X) → map f (set xs i x) ≡ set (map f xs) i (f x)
map_set f [] i x = refl
map_set f (y ∷ ys) zero x = refl
map_set f (y ∷ ys) (suc i) x = ap (λ l. f y ∷ l) (map_set f ys i x)

module _ {S K C : Type 0} where
  pub tidy_new : (old : Watched S K C) (i : ℕ) (state : State) (by : Shower) → IsTidy old → IsShowerOf (words_of old) by → known_by by ≡ after (known_of old) i state
      → IsTidy (record old { shower = by; states = with_item old.states i state })
  tidy_new old i state by T S k = record {
    shower = S;
    few = T.few;
    count = ap (λ (l : List States). length l) k ∙ (length-set (known_of old) i (states_of (known_of old) i ++ state ∷ []) ∙ T.count);
    states =
        ap (λ (l : List State). set l i state) T.states
        ∙ (ap (λ (x : State). set (map (last_or Invalid) (known_of old)) i x) (sym (last_snoc Invalid (states_of (known_of old) i) state))
        ∙ (sym (map_set (last_or Invalid) (known_of old) i (states_of (known_of old) i ++ state ∷ [])) ∙ ap (λ (l : List States). map (last_or Invalid) l) (sym k)));
  }
