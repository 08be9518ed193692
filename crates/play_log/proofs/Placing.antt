-- Lines with places: words that stand in a table, and the text of several lists.
use Rattle.std.proofs.Common.{◌≡◌, ℕ, zero, suc, ◌+◌, ◌<◌, ◌≤◌, ltb, cond, Bool, true, false, List, [], ◌∷◌, ◌++◌, length, take, drop, Option, Some, slice_get, option_map, refl, sym, ap, ◌∙◌, subst, arith, append_assoc, append-nil, length-append}
use Rattle.std.specs.Prelude.{codes, map, slice_index_or}
use Rattle.std.specs.Fmt.{decimal}
use Rattle.std.proofs.lemmas.List.{length-take, map-append, take-append-drop, take_more}
use Rattle.std.proofs.lemmas.List.Elements.{All-head, All-push, All-tail}
use Rattle.std.proofs.lemmas.Option.{slice_get-map}
use Rattle.act_text.specs.Texts.{act_text}
use Rattle.play_log.specs.Lines.{LogLine, line_text, lines_from, log_text}
use Rattle.play_log.specs.Merged.{Leads, left_of, merged, merged_all, rest_without, weave}
use Rattle.play_log.specs.Places.{AreKeptAt, AreSpelled, PassLogValue, PlacedLine, PlacedText, line_place, lists_of, numbered, numbered_from, placed_spelled, placed_text, rest_text, text_place}
use Rattle.play_log.specs.Spelled.{Begins, number_in, rest_spelled}
use Rattle.play_log.specs.declared.placed.Placed.{Placed}
use Rattle.play_log.proofs.Spelling.{regrouped, rest_first}

-- ---- a longer table

placed_first : (words more : List (List ℕ)) (lines : List Placed) → AreSpelled words lines → map (placed_spelled (words ++ more)) lines ≡ map (placed_spelled words) lines
placed_first words more [] T = refl
placed_first words more (it ∷ lines) T =
    let one : placed_spelled (words ++ more) it ≡ placed_spelled words it = ap (λ (t : List ℕ). record { place = it.place; rest = t }) (rest_first words more it.line (All-head (λ (x : Placed). number_in x.line < length words) it lines T)) in
    let others = placed_first words more lines (All-tail (λ (x : Placed). number_in x.line < length words) it lines T) in
    λ i. one i ∷ others i

pub placed_still : (words longer : List (List ℕ)) → Begins words longer → (lines : List Placed) → AreSpelled words lines → map (placed_spelled longer) lines ≡ map (placed_spelled words) lines
placed_still words longer (more, e) lines T = ap (λ (t : List (List ℕ)). map (placed_spelled t) lines) e ∙ placed_first words more lines T

-- one line more
pub placed_on : (words longer : List (List ℕ)) (old new : List Placed) (it : Placed) (said : LogLine) → Begins words longer → AreSpelled words old → new ≡ old ++ it ∷ [] → rest_spelled longer it.line ≡ rest_text said
    → map (placed_spelled longer) new ≡ map (placed_spelled words) old ++ record { place = it.place; rest = rest_text said } ∷ []
placed_on words longer old new it said B T added says =
    ap (map (placed_spelled longer)) added ∙ (map-append (placed_spelled longer) old (it ∷ [])
    ∙ (λ i. placed_still words longer B old T i ++ record { place = it.place; rest = says i } ∷ []))

-- what a log with no line more keeps
pub log_still : (words longer : List (List ℕ)) (old new : List Placed) (broken : Bool) → Begins words longer → AreSpelled words old → new ≡ old
    → ◌≡◌ {A = PassLogValue} (record { lines = map (placed_spelled longer) new; broken = broken }) (record { lines = map (placed_spelled words) old; broken = broken })
log_still words longer old new broken B T e = ap (λ (ts : List PlacedText). record { lines = ts; broken = broken }) (ap (map (placed_spelled longer)) e ∙ placed_still words longer B old T)

spelled_longer : (words longer : List (List ℕ)) → Begins words longer → (lines : List Placed) → AreSpelled words lines → AreSpelled longer lines
spelled_longer words longer (more, e) lines T k d h =
    let l = length-append words more in
    let m = ap length e in
    let b = T k d h in
    omega (arith, l, m, b)

pub spelled_on : (words longer : List (List ℕ)) (old new : List Placed) (it : Placed) → Begins words longer → AreSpelled words old → new ≡ old ++ it ∷ [] → number_in it.line < length longer → AreSpelled longer new
spelled_on words longer old new it B T added there = subst (AreSpelled longer) (sym added) (All-push (λ (x : Placed). number_in x.line < length longer) old it (spelled_longer words longer B old T) there)

-- what a longer log keeps
pub kept_at_more : (lines : List PlacedLine) (line : PlacedLine) (old new : List PlacedText) → old ≡ map placed_text lines → new ≡ old ++ placed_text line ∷ [] → new ≡ map placed_text (lines ++ line ∷ [])
kept_at_more lines line old new K e = e ∙ (ap (λ (ts : List PlacedText). ts ++ placed_text line ∷ []) K ∙ sym (map-append placed_text lines (line ∷ [])))

-- ---- a line at its index

pub text_at : (words : List (List ℕ)) (lines : List Placed) (n : ℕ) (o : Option Placed) → o ≡ slice_get lines n → slice_get (map (placed_spelled words) lines) n ≡ option_map (placed_spelled words) o
text_at words lines n o e = slice_get-map (placed_spelled words) lines n ∙ ap (option_map (placed_spelled words)) (sym e)

-- ---- lists with places that are mapped

cond_map : {A B : Type 0} (f : A → B) (b c : Bool) (l r : List A) (k q : List B) → c ≡ b → map f l ≡ k → map f r ≡ q → map f (cond b l r) ≡ cond c k q
cond_map f true c l r k q e p h = p ∙ sym (ap (λ t. cond t k q) e)
cond_map f false c l r k q e p h = h ∙ sym (ap (λ t. cond t k q) e)

module _ {A B : Type 0} (f : A → B) (place : A → ℕ) (placed : B → ℕ) (same : (x : A) → placed (f x) ≡ place x) where
  weave_map : (x : A) (xs ys : List A) → ((zs : List A) → map f (merged place xs zs) ≡ merged placed (map f xs) (map f zs)) → map f (merged place (x ∷ xs) ys) ≡ merged placed (f x ∷ map f xs) (map f ys)
  weave_map x xs [] h = ap (λ l. f x ∷ l) (h [])
  weave_map x xs (y ∷ ys) h =
      cond_map f (ltb (place x) (place y)) (ltb (placed (f x)) (placed (f y))) (x ∷ merged place xs (y ∷ ys)) (y ∷ weave place x (merged place xs) ys) (f x ∷ merged placed (map f xs) (map f (y ∷ ys)))
      (f y ∷ weave placed (f x) (merged placed (map f xs)) (map f ys)) (λ i. ltb (same x i) (same y i)) (ap (λ l. f x ∷ l) (h (y ∷ ys))) (ap (λ l. f y ∷ l) (weave_map x xs ys h))

  pub merged_map : (xs ys : List A) → map f (merged place xs ys) ≡ merged placed (map f xs) (map f ys)
  merged_map [] ys = refl
  merged_map (x ∷ xs) ys = weave_map x xs ys (λ zs. merged_map xs zs)

  pub all_map : (lists : List (List A)) → map f (merged_all place lists) ≡ merged_all placed (map (map f) lists)
  all_map [] = refl
  all_map (list ∷ lists) = merged_map list (merged_all place lists) ∙ ap (merged placed (map f list)) (all_map lists)

-- ---- the text of all

pub lists_kept : (lists : List (List PlacedLine)) (logs : List PassLogValue) → AreKeptAt lists logs → lists_of logs ≡ map (map placed_text) lists
lists_kept [] [] K = refl
lists_kept [] (log ∷ logs) K = absurd K
lists_kept (lines ∷ lists) [] K = absurd K
lists_kept (lines ∷ lists) (log ∷ logs) (one, more) = λ i. one i ∷ lists_kept lists logs more i

numbered_line : (n : ℕ) (l : PlacedLine) → numbered n (placed_text l) ≡ line_text n l.line
numbered_line n l = ap (λ (t : List ℕ). t ++ codes "\n") (regrouped (decimal n ++ codes " ") (decimal (l.line).pass) (codes " ") (act_text (l.line).said))

numbered_lines : (n : ℕ) (lines : List PlacedLine) → numbered_from n (map placed_text lines) ≡ lines_from n (map (λ l. l.line) lines)
numbered_lines n [] = refl
numbered_lines n (l ∷ lines) = λ i. numbered_line n l i ++ numbered_lines (n + 1) lines i

pub text_of_all : (lists : List (List PlacedLine)) (logs : List PassLogValue) → AreKeptAt lists logs
    → numbered_from 1 (merged_all text_place (lists_of logs)) ++ codes "end\n" ≡ log_text (map (λ l. l.line) (merged_all line_place lists))
text_of_all lists logs K =
    let texts : merged_all text_place (lists_of logs) ≡ map placed_text (merged_all line_place lists) =
    ap (merged_all text_place) (lists_kept lists logs K) ∙ sym (all_map placed_text line_place text_place (λ l. refl) lists) in
    ap (λ (t : List ℕ). t ++ codes "end\n") (ap (numbered_from 1) texts ∙ numbered_lines 1 (merged_all line_place lists))

-- ---- the numbered text grows

pub numbered_more : (n : ℕ) (ts : List PlacedText) (t : PlacedText) → numbered_from n (ts ++ t ∷ []) ≡ numbered_from n ts ++ numbered (n + length ts) t
numbered_more n [] t =
    let here : n + 0 ≡ n = omega arith in
    append-nil (numbered n t) ∙ ap (λ (k : ℕ). numbered k t) (sym here)
numbered_more n (x ∷ ts) t =
    let there : n + 1 + length ts ≡ n + length (x ∷ ts) = omega arith in
    ap (λ (l : List ℕ). numbered n x ++ l) (numbered_more (n + 1) ts t ∙ ap (λ (k : ℕ). numbered_from (n + 1) ts ++ numbered k t) there)
    ∙ sym (append_assoc (numbered n x) (numbered_from (n + 1) ts) (numbered (n + length (x ∷ ts)) t))

numbered_parts : (n : ℕ) (xs ys : List PlacedText) → numbered_from n (xs ++ ys) ≡ numbered_from n xs ++ numbered_from (n + length xs) ys
numbered_parts n [] ys = let here : n ≡ n + 0 = omega arith in ap (λ (k : ℕ). numbered_from k ys) here
numbered_parts n (x ∷ xs) ys =
    let there : n + 1 + length xs ≡ n + length (x ∷ xs) = omega arith in
    ap (λ (t : List ℕ). numbered n x ++ t) (numbered_parts (n + 1) xs ys ∙ ap (λ (k : ℕ). numbered_from (n + 1) xs ++ numbered_from k ys) there)
    ∙ sym (append_assoc (numbered n x) (numbered_from (n + 1) xs) (numbered_from (n + length (x ∷ xs)) ys))

pub numbered_next : (i : ℕ) (all : List PlacedText) (d : PlacedText) → i < length all → numbered_from 1 (take i all) ++ numbered (i + 1) (slice_index_or all i d) ≡ numbered_from 1 (take (i + 1) all)
numbered_next i all d b =
    let many : 1 + length (take i all) ≡ i + 1 = let l = length-take i all in omega (arith, l, b) in
    sym (ap (numbered_from 1) (take_more all i d b) ∙ (numbered_more 1 (take i all) (slice_index_or all i d) ∙ ap (λ (k : ℕ). numbered_from 1 (take i all) ++ numbered k (slice_index_or all i d)) many))

pub numbered_left : (i : ℕ) (all : List PlacedText) → numbered_from 1 (take i all) ++ numbered_from (1 + length (take i all)) (drop i all) ≡ numbered_from 1 all
numbered_left i all = sym (numbered_parts 1 (take i all) (drop i all)) ∙ ap (numbered_from 1) (take-append-drop i all)

-- ---- the heads of all

pub first_text : (at : List ℕ) (lists : List (List PlacedText)) (page least : ℕ) → Leads text_place at lists 0 page least → (t : PlacedText) (more : List PlacedText) → merged_all text_place (left_of at lists) ≡ t ∷ more
    → slice_get (slice_index_or lists page []) (slice_index_or at page 0) ≡ Some t
first_text at lists page least L t more h =
    let e : L.value ∷ rest_without text_place at lists page 0 ≡ t ∷ more = sym L.first ∙ h in
    let s : L.value ≡ t = cc in
    L.there ∙ ap Some s

abbrev pub zeros : ℕ → List ℕ
zeros zero = []
zeros (suc n) = 0 ∷ zeros n

-- nothing was taken of any
pub left_zeros : (n : ℕ) (lists : List (List PlacedText)) → length lists ≤ n → left_of (zeros n) lists ≡ lists
left_zeros n [] b = refl
left_zeros zero (list ∷ lists) b = absurd (omega (arith, b))
left_zeros (suc n) (list ∷ lists) b = let c : length lists ≤ n = omega (arith, b) in ap (λ ls. list ∷ ls) (left_zeros n lists c)
