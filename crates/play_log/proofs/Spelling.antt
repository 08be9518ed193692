-- Lines whose words stand in a table: the table grows, and a line comes at the end.
use Rattle.std.proofs.Common.{◌≡◌, ℕ, Bool, zero, suc, ◌+◌, ◌<◌, ◌≤◌, List, [], ◌∷◌, ◌++◌, length, take, drop, Some, slice_get, option_map, refl, sym, ap, ◌∙◌, subst, arith, append_assoc, append-nil, length-append}
use Rattle.std.specs.Prelude.{codes, slice_index_or, map}
use Rattle.std.specs.Fmt.{decimal}
use Rattle.std.specs.List.{flat_map}
use Rattle.std.proofs.lemmas.Grind.{flat_map-append}
use Rattle.std.proofs.lemmas.List.{get_or_append_left, get_or-append-add, length-take, map-append, take-append-drop, take_more}
use Rattle.std.proofs.lemmas.List.Elements.{All-head, All-tail}
use Rattle.std.proofs.lemmas.Option.{get_or_from_slice_get, slice_get-map, slice_get_within}
use Rattle.act_text.specs.Acts.{act_words}
use Rattle.act_text.specs.Texts.{act_text, text_words}
use Rattle.act_text.specs.declared.act.TextAct.{TextAct}
use Rattle.act_text.specs.declared.reply.TextReply.TheVariants.{Did, Finished as DidFrames}
use Rattle.act_text.specs.declared.text.ActText.{ActText}
use Rattle.line_text.specs.Lists.{after_spaces, spaced}
use Rattle.play_log.proofs.Growing.{kept_more}
use Rattle.play_log.specs.Kept.{IsKept, LogValue}
use Rattle.play_log.specs.Lines.{LogLine, line_text}
use Rattle.play_log.specs.Places.{rest_text}
use Rattle.play_log.specs.Spelled.{AreMade, AreThere, Begins, line_spelled, number_in, rest_spelled, spelled_from}
use Rattle.play_log.specs.declared.words.Made.{Made}
use Rattle.play_log.specs.declared.line.Line.{Line}
use Rattle.play_log.specs.declared.line.Line.TheVariants.{Said, Finished}

-- ---- a longer table

pub begins_itself : {T : Type 0} (xs : List T) → Begins xs xs
begins_itself xs = ([], sym (append-nil xs))

pub begins_then : {T : Type 0} (xs ys zs : List T) → Begins xs ys → Begins ys zs → Begins xs zs
begins_then xs ys zs (a, e) (b, f) = (a ++ b, f ∙ (ap (λ (t : List _). t ++ b) e ∙ append_assoc xs a b))

pub get_first : {T : Type 0} (xs ys : List T) (n : ℕ) (x : T) → slice_get xs n ≡ Some x → slice_get (xs ++ ys) n ≡ Some x
get_first [] ys n x e = absurd cc
get_first (a ∷ xs) ys zero x e = e
get_first (a ∷ xs) ys (suc n) x e = get_first xs ys n x e

pub still_there : {T : Type 0} (xs ys : List T) → Begins xs ys → (n : ℕ) (x : T) → slice_get xs n ≡ Some x → slice_get ys n ≡ Some x
still_there xs ys (rest, e) n x g = subst (λ (t : List _). slice_get t n ≡ Some x) (sym e) (get_first xs rest n x g)

pub get_last : {T : Type 0} (xs : List T) (x : T) → slice_get (xs ++ x ∷ []) (length xs) ≡ Some x
get_last [] x = refl
get_last (a ∷ xs) x = get_last xs x

index_first : {T : Type 0} (xs ys : List T) (n : ℕ) (d : T) → n < length xs → slice_index_or (xs ++ ys) n d ≡ slice_index_or xs n d
index_first [] ys n d b = absurd (omega arith)
index_first (a ∷ xs) ys zero d b = refl
index_first (a ∷ xs) ys (suc n) d b = index_first xs ys n d (omega arith)

pub rest_first : (words more : List (List ℕ)) (line : Line) → number_in line < length words → rest_spelled (words ++ more) line ≡ rest_spelled words line
rest_first words more (Said pass number) b = ap (λ (t : List ℕ). decimal pass ++ codes " " ++ t) (index_first words more number [] b)
rest_first words more (Finished pass number frames) b = ap (λ (t : List ℕ). decimal pass ++ codes " " ++ t ++ codes " " ++ decimal frames) (index_first words more number [] b)

line_first : (words more : List (List ℕ)) (n : ℕ) (line : Line) → number_in line < length words → line_spelled (words ++ more) n line ≡ line_spelled words n line
line_first words more n line b = ap (λ (t : List ℕ). decimal n ++ codes " " ++ t ++ codes "\n") (rest_first words more line b)

lines_first : (words more : List (List ℕ)) (n : ℕ) (lines : List Line) → AreThere words lines → spelled_from (words ++ more) n lines ≡ spelled_from words n lines
lines_first words more n [] T = refl
lines_first words more n (line ∷ lines) T =
    let one = line_first words more n line (All-head (λ (it : Line). number_in it < length words) line lines T) in
    let rest = lines_first words more (n + 1) lines (All-tail (λ (it : Line). number_in it < length words) line lines T) in
    λ i. one i ++ rest i

-- with a longer table the lines are spelled as before
pub spelled_still : (words longer : List (List ℕ)) → Begins words longer → (n : ℕ) (lines : List Line) → AreThere words lines → spelled_from longer n lines ≡ spelled_from words n lines
spelled_still words longer (more, e) n lines T = ap (λ (t : List (List ℕ)). spelled_from t n lines) e ∙ lines_first words more n lines T

pub there_still : (words longer : List (List ℕ)) → Begins words longer → (lines : List Line) → AreThere words lines → AreThere longer lines
there_still words longer (more, e) lines T k d h =
    let l = length-append words more in
    let m = ap length e in
    let b = T k d h in
    omega (arith, l, m, b)

-- a part of a list
pub part_there : (words : List (List ℕ)) (before part rest : List Line) → AreThere words (before ++ part ++ rest) → AreThere words part
part_there words before part rest A k d b =
    let l = length-append (before ++ part) rest in
    let m = length-append before part in
    let within : length before + k < length (before ++ part ++ rest) = omega (arith, l, m, b) in
    let near : length before + k < length (before ++ part) = omega (arith, m, b) in
    subst (λ (line : Line). number_in line < length words) (get_or_append_left (before ++ part) rest d (length before + k) near ∙ get_or-append-add before part k d) (A (length before + k) d within)

-- ---- one line more

pub spelled_more : (words : List (List ℕ)) (n : ℕ) (lines : List Line) (line : Line) → spelled_from words n (lines ++ line ∷ []) ≡ spelled_from words n lines ++ line_spelled words (n + length lines) line
spelled_more words n [] line =
    let here : n + 0 ≡ n = omega arith in
    append-nil (line_spelled words n line) ∙ ap (λ (k : ℕ). line_spelled words k line) (sym here)
spelled_more words n (x ∷ lines) line =
    let there : n + 1 + length lines ≡ n + length (x ∷ lines) = omega arith in
    ap (λ (l : List ℕ). line_spelled words n x ++ l) (spelled_more words (n + 1) lines line ∙ ap (λ (k : ℕ). spelled_from words (n + 1) lines ++ line_spelled words k line) there)
    ∙ sym (append_assoc (line_spelled words n x) (spelled_from words (n + 1) lines) (line_spelled words (n + length (x ∷ lines)) line))

-- one list of lines, and another behind it
pub spelled_parts : (words : List (List ℕ)) (n : ℕ) (xs ys : List Line) → spelled_from words n (xs ++ ys) ≡ spelled_from words n xs ++ spelled_from words (n + length xs) ys
spelled_parts words n [] ys = let here : n ≡ n + 0 = omega arith in ap (λ (k : ℕ). spelled_from words k ys) here
spelled_parts words n (x ∷ xs) ys =
    let there : n + 1 + length xs ≡ n + length (x ∷ xs) = omega arith in
    ap (λ (t : List ℕ). line_spelled words n x ++ t) (spelled_parts words (n + 1) xs ys ∙ ap (λ (k : ℕ). spelled_from words (n + 1) xs ++ spelled_from words k ys) there)
    ∙ sym (append_assoc (line_spelled words n x) (spelled_from words (n + 1) xs) (spelled_from words (n + length (x ∷ xs)) ys))

-- the line at the place behind those before it
pub spelled_next : (words : List (List ℕ)) (n i number : ℕ) (lines : List Line) (d : Line) → i < length lines → number ≡ n + i → spelled_from words n (take i lines) ++ line_spelled words number (slice_index_or lines i d) ≡ spelled_from words n (take (i + 1) lines)
spelled_next words n i number lines d b e =
    let many : n + length (take i lines) ≡ number = let l = length-take i lines in omega (arith, l, e, b) in
    sym (ap (spelled_from words n) (take_more lines i d b) ∙ (spelled_more words n (take i lines) (slice_index_or lines i d) ∙ ap (λ (k : ℕ). spelled_from words n (take i lines) ++ line_spelled words k (slice_index_or lines i d)) many))

-- what is left behind that
pub spelled_left : (words : List (List ℕ)) (n i : ℕ) (lines : List Line) → spelled_from words n (take i lines) ++ spelled_from words (n + length (take i lines)) (drop i lines) ≡ spelled_from words n lines
spelled_left words n i lines = sym (spelled_parts words n (take i lines) (drop i lines)) ∙ ap (spelled_from words n) (take-append-drop i lines)

-- ---- lines that stand in pieces

pub pieces_next : {A : Type 0} (f : A → List Line) (pieces : List A) (i : ℕ) (d : A) → i < length pieces → flat_map f (take (i + 1) pieces) ≡ flat_map f (take i pieces) ++ f (slice_index_or pieces i d)
pieces_next f pieces i d b =
    ap (flat_map f) (take_more pieces i d b) ∙ (flat_map-append f (take i pieces) (slice_index_or pieces i d ∷ []) ∙ ap (λ (t : List Line). flat_map f (take i pieces) ++ t) (append-nil (f (slice_index_or pieces i d))))

pub pieces_left : {A : Type 0} (f : A → List Line) (pieces : List A) (i : ℕ) → flat_map f (take i pieces) ++ flat_map f (drop i pieces) ≡ flat_map f pieces
pieces_left f pieces i = sym (flat_map-append f (take i pieces) (drop i pieces)) ∙ ap (flat_map f) (take-append-drop i pieces)

-- the lines of a piece are there, and few
pub piece_there : {A : Type 0} (words : List (List ℕ)) (f : A → List Line) (pieces : List A) (i : ℕ) (d : A) → i < length pieces → AreThere words (flat_map f pieces) → AreThere words (f (slice_index_or pieces i d))
piece_there words f pieces i d b A =
    let before = flat_map f (take i pieces) in
    let piece = f (slice_index_or pieces i d) in
    let rest = flat_map f (drop (i + 1) pieces) in
    let split : flat_map f pieces ≡ before ++ piece ++ rest = sym (pieces_left f pieces (i + 1)) ∙ ap (λ (t : List Line). t ++ rest) (pieces_next f pieces i d b) in
    part_there words before piece rest (subst (AreThere words) split A)

pub piece_few : {A : Type 0} (f : A → List Line) (pieces : List A) (i : ℕ) (d : A) → i < length pieces → length (flat_map f (take i pieces)) + length (f (slice_index_or pieces i d)) ≤ length (flat_map f pieces)
piece_few f pieces i d b =
    let l = length-append (flat_map f (take i pieces)) (f (slice_index_or pieces i d)) in
    let m = ap length (pieces_next f pieces i d b) in
    let n = ap length (pieces_left f pieces (i + 1)) in
    let k = length-append (flat_map f (take (i + 1) pieces)) (flat_map f (drop (i + 1) pieces)) in
    omega (arith, l, m, n, k)

-- they come behind those of the pieces before
pub piece_spelled : {A : Type 0} (words : List (List ℕ)) (f : A → List Line) (pieces : List A) (i number : ℕ) (d : A) → i < length pieces → number ≡ length (flat_map f (take i pieces))
    → spelled_from words 1 (flat_map f (take i pieces)) ++ spelled_from words (number + 1) (f (slice_index_or pieces i d)) ≡ spelled_from words 1 (flat_map f (take (i + 1) pieces))
piece_spelled words f pieces i number d b e =
    let first : number + 1 ≡ 1 + length (flat_map f (take i pieces)) = omega (arith, e) in
    ap (λ (k : ℕ). spelled_from words 1 (flat_map f (take i pieces)) ++ spelled_from words k (f (slice_index_or pieces i d))) first
    ∙ (sym (spelled_parts words 1 (flat_map f (take i pieces)) (f (slice_index_or pieces i d))) ∙ ap (spelled_from words 1) (sym (pieces_next f pieces i d b)))

pub pieces_spelled : {A : Type 0} (words : List (List ℕ)) (f : A → List Line) (pieces : List A) (i : ℕ)
    → spelled_from words 1 (flat_map f (take i pieces)) ++ spelled_from words (1 + length (flat_map f (take i pieces))) (flat_map f (drop i pieces)) ≡ spelled_from words 1 (flat_map f pieces)
pieces_spelled words f pieces i = sym (spelled_parts words 1 (flat_map f (take i pieces)) (flat_map f (drop i pieces))) ∙ ap (spelled_from words 1) (pieces_left f pieces i)

pub parts_spelled : (words : List (List ℕ)) (full last lines : List Line) → full ++ last ≡ lines → spelled_from words 1 full ++ spelled_from words (1 + length full) last ≡ spelled_from words 1 lines
parts_spelled words full last lines e = sym (spelled_parts words 1 full last) ∙ ap (spelled_from words 1) e

pub last_lines : (words : List (List ℕ)) (full last : List Line) (before : ℕ) → before ≡ length full → spelled_from words 1 full ++ spelled_from words (before + 1) last ≡ spelled_from words 1 full ++ spelled_from words (1 + length full) last
last_lines words full last before e = let same : before + 1 ≡ 1 + length full = omega (arith, e) in ap (λ (k : ℕ). spelled_from words 1 full ++ spelled_from words k last) same

pub part_last : (words : List (List ℕ)) (full last lines : List Line) → full ++ last ≡ lines → AreThere words lines → AreThere words last
part_last words full last lines e A = part_there words full last [] (subst (AreThere words) (sym (append-nil (full ++ last) ∙ e)) A)

-- ---- a line says an act

pub regrouped : (a b c d : List ℕ) → a ++ (b ++ c ++ d) ≡ a ++ b ++ c ++ d
regrouped a b c d = sym (append_assoc a (b ++ c) d) ∙ ap (λ (t : List ℕ). t ++ d) (sym (append_assoc a b c))

-- the line of an act whose words stand behind its number
pub line_rest : (words : List (List ℕ)) (line : Line) (said : LogLine) → rest_spelled words line ≡ rest_text said → (n : ℕ) → line_spelled words n line ≡ line_text n said
line_rest words line said e n =
    ap (λ (t : List ℕ). decimal n ++ codes " " ++ t ++ codes "\n") e
    ∙ ap (λ (t : List ℕ). t ++ codes "\n") (regrouped (decimal n ++ codes " ") (decimal said.pass) (codes " ") (act_text said.said))

pub said_so : (words : List (List ℕ)) (number pass : ℕ) (act : ActText) → slice_get words number ≡ Some (act_text act) → rest_spelled words (Said pass number) ≡ rest_text (record { pass = pass; said = act })
said_so words number pass act e = ap (λ (t : List ℕ). decimal pass ++ codes " " ++ t) (get_or_from_slice_get words number (act_text act) [] e)

drop_first : (xs ys : List ℕ) → 0 < length xs → drop 1 (xs ++ ys) ≡ drop 1 xs ++ ys
drop_first [] ys b = absurd (omega arith)
drop_first (x ∷ xs) ys b = refl

space_first : (xs : List ℕ) → 32 ∷ xs ≡ codes " " ++ xs
space_first xs = refl

text_is : (text : ActText) → act_text text ≡ spaced (text_words text)
unfolding act_text
text_is text = refl

-- the frames of a step stand behind what is said of one that did something
pub finish_text : (act : TextAct) (frames : ℕ) → act_text (record { act = act; reply = DidFrames frames }) ≡ act_text (record { act = act; reply = Did }) ++ (codes " " ++ decimal frames)
finish_text act frames =
    let first : List (List ℕ) = act_words act ++ (codes "=" ∷ codes "did" ∷ []) in
    let words : act_words act ++ (codes "=" ∷ codes "did" ∷ decimal frames ∷ []) ≡ first ++ decimal frames ∷ [] = sym (append_assoc (act_words act) (codes "=" ∷ codes "did" ∷ []) (decimal frames ∷ [])) in
    let parts : after_spaces (first ++ decimal frames ∷ []) ≡ after_spaces first ++ (32 ∷ decimal frames) = flat_map-append (λ (word : List ℕ). 32 ∷ word) first (decimal frames ∷ []) ∙ ap (λ (t : List ℕ). after_spaces first ++ t) (append-nil (32 ∷ decimal frames)) in
    let some : 0 < length (after_spaces first) = let l = length-append (after_spaces (act_words act)) (after_spaces (codes "=" ∷ codes "did" ∷ [])) in let f = ap length (flat_map-append (λ (word : List ℕ). 32 ∷ word) (act_words act) (codes "=" ∷ codes "did" ∷ [])) in omega (arith, l, f) in
    text_is (record { act = act; reply = DidFrames frames })
    ∙ (ap spaced words ∙ (ap (drop 1) parts ∙ (drop_first (after_spaces first) (32 ∷ decimal frames) some
    ∙ ((λ i. sym (text_is (record { act = act; reply = Did })) i ++ space_first (decimal frames) i)))))

pub finished_so : (words : List (List ℕ)) (number pass frames : ℕ) (act : TextAct) → slice_get words number ≡ Some (act_text (record { act = act; reply = Did }))
    → rest_spelled words (Finished pass number frames) ≡ rest_text (record { pass = pass; said = record { act = act; reply = DidFrames frames } })
finished_so words number pass frames act e =
    let front : List ℕ = decimal pass ++ codes " " in
    let did : List ℕ = act_text (record { act = act; reply = Did }) in
    let at : slice_index_or words number [] ≡ did = get_or_from_slice_get words number did [] e in
    ap (λ (t : List ℕ). front ++ t ++ codes " " ++ decimal frames) at
    ∙ (append_assoc (front ++ did) (codes " ") (decimal frames) ∙ (append_assoc front did (codes " " ++ decimal frames) ∙ ap (λ (t : List ℕ). front ++ t) (sym (finish_text act frames))))

-- ---- the table's acts

pub pushed_map : {A B : Type 0} (f : A → B) (old new : List A) (x : A) → new ≡ old ++ x ∷ [] → map f new ≡ map f old ++ f x ∷ []
pushed_map f old new x e = ap (map f) e ∙ map-append f old (x ∷ [])

pub made_there : (made : List Made) (number : ℕ) (it : Made) → AreMade made → slice_get made number ≡ Some it → slice_get (map (λ (m : Made). m.text.items) made) number ≡ Some (act_text it.act)
made_there made number it A e =
    slice_get-map (λ (m : Made). m.text.items) made number ∙ (ap (option_map (λ (m : Made). m.text.items)) e
    ∙ ap Some (subst (λ (m : Made). m.text.items ≡ act_text m.act) (get_or_from_slice_get made number it it e) (A number it (slice_get_within made number it e))))

pub last_there : (words longer : List (List ℕ)) (x : List ℕ) (number : ℕ) → longer ≡ words ++ x ∷ [] → number ≡ length words → slice_get longer number ≡ Some x
last_there words longer x number e n = (λ i. slice_get (e i) (n i)) ∙ get_last words x

-- ---- what a log keeps

-- the words grew, and nothing was added
pub text_still : (words longer : List (List ℕ)) (old new : List Line) (count : ℕ) (broken : Bool) → Begins words longer → AreThere words old → new ≡ old
    → ◌≡◌ {A = LogValue} (record { text = spelled_from longer 1 new; count = count; broken = broken }) (record { text = spelled_from words 1 old; count = count; broken = broken })
text_still words longer old new count broken B T e =
    ap (λ (text : List ℕ). record { text = text; count = count; broken = broken }) (ap (spelled_from longer 1) e ∙ spelled_still words longer B 1 old T)

-- a line was added
pub kept_on : (words longer : List (List ℕ)) (old new : List Line) (line : Line) (said : LogLine) (count next : ℕ) (broken : Bool) → Begins words longer → AreThere words old → count ≡ length old → next ≡ count + 1 → new ≡ old ++ line ∷ []
    → ((n : ℕ) → line_spelled longer n line ≡ line_text n said) → (lines : List LogLine) → IsKept lines (record { text = spelled_from words 1 old; count = count; broken = broken })
    → IsKept (lines ++ said ∷ []) (record { text = spelled_from longer 1 new; count = next; broken = broken })
kept_on words longer old new line said count next broken B T many one added says lines K =
    let number : 1 + length old ≡ count + 1 = omega (arith, many) in
    let text : spelled_from longer 1 new ≡ spelled_from words 1 old ++ line_text (count + 1) said =
    ap (spelled_from longer 1) added ∙ (spelled_more longer 1 old line
    ∙ (λ i. spelled_still words longer B 1 old T i ++ (says (1 + length old) ∙ ap (λ (n : ℕ). line_text n said) number) i)) in
    subst (λ (n : ℕ). IsKept (lines ++ said ∷ []) (record { text = spelled_from longer 1 new; count = n; broken = broken })) (sym one) (kept_more lines said (spelled_from words 1 old) (spelled_from longer 1 new) count broken K text)
