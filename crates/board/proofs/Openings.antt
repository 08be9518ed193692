-- A value to begin with.
use Rattle.std.proofs.Common.{◌≡◌, zero, suc, ◌≤◌, ◌∙◌, sym, ap, subst, refl, inl, length, map, List, [], ◌∷◌, arith}
use Rattle.omx_types.specs.declared.state.State.{State}
use Rattle.omx_types.specs.declared.state.State.TheVariants.{Invalid}
use Rattle.il_machine.specs.World.{World}
use Rattle.il_graph.specs.Shown.{SoundWhole, kept}
use Rattle.graph_acts.specs.Plain.{Sight}
use Rattle.state_words.specs.Shown.{States, last_or, firsts}
use Rattle.state_words.specs.Tokens.{IsShowerOf}
use Rattle.board.specs.declared.watched.Watched.{Watched}
use Rattle.board.specs.Busy.{none}
use Rattle.board.specs.Watching.{start}
use Rattle.board.specs.Histories.{graph_of, known_of, words_of, IsTidy, HasVersions, Reaches, Legal, StandsAfter}

pub firsts_last : (xs : List State) → map (last_or Invalid) (firsts xs) ≡ xs
firsts_last [] = refl
firsts_last (x ∷ xs) = ap (λ l. x ∷ l) (firsts_last xs)

pub firsts_versions : (xs : List State) → HasVersions (firsts xs) 0
firsts_versions [] i = omega arith
firsts_versions (x ∷ xs) zero = omega arith
firsts_versions (x ∷ xs) (suc i) = firsts_versions xs i

pub firsts_count : (xs : List State) → length (firsts xs) ≡ length xs
firsts_count [] = refl
firsts_count (x ∷ xs) = ap suc (firsts_count xs)

module _ {S K C : Type 0} (see : Sight S K C) where
  pub opens : (value : Watched S K C) → SoundWhole (kept see.progress (graph_of value)) → IsTidy value → HasVersions (known_of value) 0 → Legal see value [] × StandsAfter see value [] value
  opens value W T V =
      let R : (w : World) → Reaches see value w [] = λ w. record {
        world = w;
        acts = [];
        plain = tt;
        all = known_of value;
        shown = start;
        reader = tt;
        objects = λ p x h. absurd h;
        works = record { out = λ p x h. absurd h; apart = λ p q x y h. absurd h; all = λ n is. inl is };
      } in (
        record { one = W; replies = tt; worlds = λ w s. R w; busy = none; apart = λ p q x y h. absurd h; objects = tt; reader = tt },
        record {
          worlds = λ w s. record { reaches = R w; stands = s; states = refl };
          headers = record { out = λ p x h. absurd h; apart = λ p q x y h. absurd h; all = λ k is. inl is };
          clients = record { out = λ p x h. absurd h; apart = λ p q x y h. absurd h; all = λ k is. inl is };
          objects = record { clients = λ h. refl; files = λ n. refl };
          parts = λ p x h. absurd h;
          words = refl;
          handles = refl;
          tidy = T;
          versions = V;
        },
      )

  -- the states at first are shown, each under version 0
  pub opens_so : (value : Watched S K C) (states : List State) → SoundWhole (kept see.progress (graph_of value)) → known_of value ≡ firsts states → value.states.items ≡ states → length value.handles.items ≤ 32 → length states ≡ length value.handles.items
      → IsShowerOf (words_of value) value.shower → Legal see value [] × StandsAfter see value [] value
  opens_so value states W k is few same S = opens value W
      (record {
        shower = S;
        few = few;
        count = ap (λ (l : List States). length l) k ∙ (firsts_count states ∙ same);
        states = is ∙ (sym (firsts_last states) ∙ ap (λ (l : List States). map (last_or Invalid) l) (sym k));
      })
      (subst (λ (l : List States). HasVersions l 0) (sym k) (firsts_versions states))
