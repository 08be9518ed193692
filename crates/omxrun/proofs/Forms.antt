-- Words that ask for one thing ask for no other.
use Rattle.std.proofs.Common.{◌≡◌, ℕ, ◌<◌, ◌^◌, List, [], ◌∷◌, codes, ap, sym, refl, ◌∙◌, subst, arith}
use Rattle.std.specs.Fmt.{decimal}
use Rattle.std.specs.Str.Parse.{digits_value}
use Rattle.std.proofs.lemmas.Fmt.{decimal_is_IsNumeral}
use Rattle.omxrun.specs.Words.{Asked, to_trace, to_play, to_make, to_clock, to_pack, to_unpack, to_audit, AreWordsOf, AreNoForm, IsAllowed, words_for, IsPlay, IsMake}

-- the first byte of the first word
abbrev first_byte : List (List ℕ) → ℕ
first_byte ((byte ∷ _) ∷ _) = byte
first_byte _ = 0

-- the second byte of the first word
abbrev second_byte : List (List ℕ) → ℕ
second_byte ((_ ∷ byte ∷ _) ∷ _) = byte
second_byte _ = 0

-- two bytes that aren't the same
apart : (less more a b : ℕ) → less < more → a ≡ less → b ≡ more → a ≡ b → ⊥
apart less more a b below is also same = omega (arith, below, is, also, same)

-- a number has one numeral
pub decimal-injective : (m n : ℕ) → m < 2 ^ 64 → n < 2 ^ 64 → decimal m ≡ decimal n → m ≡ n
decimal-injective m n fits_m fits_n same =
    sym (decimal_is_IsNumeral m fits_m).1 ∙ ap (digits_value 10) same ∙ (decimal_is_IsNumeral n fits_n).1

pub no_play : (script : List ℕ) (workers : ℕ) (log : List ℕ) → workers < 2 ^ 64 → (IsPlay script workers log → ⊥) → AreNoForm (codes "play" ∷ script ∷ decimal workers ∷ log ∷ [])
no_play script workers log fits none (to_trace other) (same, _) = cc
no_play script workers log fits none (to_play s w l) (same, is) =
    let script_is : s ≡ script = cc in
    let number : decimal w ≡ decimal workers = cc in
    let log_is : l ≡ log = cc in
    let workers_is = decimal-injective w workers (let h : w < 2 ^ 64 = omega (arith, is.few_workers) in h) fits number in
    none (subst (λ (x : List ℕ). IsPlay x workers log) script_is (subst (λ (n : ℕ). IsPlay s n log) workers_is (subst (λ (x : List ℕ). IsPlay s w x) log_is is)))
no_play script workers log fits none (to_make seed frames folder) (same, _) =
    apart 109 112 _ _ (omega arith) refl refl (sym (ap first_byte same))
no_play script workers log fits none (to_clock other) (same, _) = cc
no_play script workers log fits none (to_pack i o) (same, _) = cc
no_play script workers log fits none (to_unpack i o) (same, _) = cc
no_play script workers log fits none (to_audit s l) (same, _) = cc

pub no_make : (seed frames : ℕ) (folder : List ℕ) → seed < 2 ^ 64 → frames < 2 ^ 64 → (IsMake seed frames folder → ⊥) → AreNoForm (codes "make" ∷ decimal seed ∷ decimal frames ∷ folder ∷ [])
no_make seed frames folder fits_seed fits_frames none (to_trace other) (same, _) = cc
no_make seed frames folder fits_seed fits_frames none (to_play s w l) (same, _) =
    apart 109 112 _ _ (omega arith) refl refl (ap first_byte same)
no_make seed frames folder fits_seed fits_frames none (to_clock other) (same, _) = cc
no_make seed frames folder fits_seed fits_frames none (to_pack i o) (same, _) = cc
no_make seed frames folder fits_seed fits_frames none (to_unpack i o) (same, _) = cc
no_make seed frames folder fits_seed fits_frames none (to_audit s l) (same, _) = cc
no_make seed frames folder fits_seed fits_frames none (to_make s f d) (same, is) =
    let seed_numeral : decimal s ≡ decimal seed = cc in
    let frames_numeral : decimal f ≡ decimal frames = cc in
    let folder_is : d ≡ folder = cc in
    let seed_is = decimal-injective s seed is.seed_fits fits_seed seed_numeral in
    let frames_is = decimal-injective f frames (let h : f < 2 ^ 64 = omega (arith, is.few_frames) in h) fits_frames frames_numeral in
    none (subst (λ (n : ℕ). IsMake n frames folder) seed_is (subst (λ (n : ℕ). IsMake s n folder) frames_is (subst (λ (x : List ℕ). IsMake s f x) folder_is is)))

-- the words of one thing are those of no other
one-trace : (script other : List ℕ) → words_for (to_trace script) ≡ words_for (to_trace other) → to_trace script ≡ to_trace other
one-trace script other same = ap to_trace (let e : script ≡ other = cc in e)

one-clock : (script other : List ℕ) → words_for (to_clock script) ≡ words_for (to_clock other) → to_clock script ≡ to_clock other
one-clock script other same = ap to_clock (let e : script ≡ other = cc in e)

one-pack : (input other output more : List ℕ) → words_for (to_pack input output) ≡ words_for (to_pack other more) → to_pack input output ≡ to_pack other more
one-pack input other output more same =
    let input_is : input ≡ other = cc in
    let output_is : output ≡ more = cc in
    ap (λ (i : List ℕ). to_pack i output) input_is ∙ ap (to_pack other) output_is

one-unpack : (input other output more : List ℕ) → words_for (to_unpack input output) ≡ words_for (to_unpack other more) → to_unpack input output ≡ to_unpack other more
one-unpack input other output more same =
    let input_is : input ≡ other = cc in
    let output_is : output ≡ more = cc in
    ap (λ (i : List ℕ). to_unpack i output) input_is ∙ ap (to_unpack other) output_is

one-audit : (script other log more : List ℕ) → words_for (to_audit script log) ≡ words_for (to_audit other more) → to_audit script log ≡ to_audit other more
one-audit script other log more same =
    let script_is : script ≡ other = cc in
    let log_is : log ≡ more = cc in
    ap (λ (s : List ℕ). to_audit s log) script_is ∙ ap (to_audit other) log_is

one-play : (script other : List ℕ) (workers count : ℕ) (log more : List ℕ) → IsPlay script workers log → IsPlay other count more → words_for (to_play script workers log) ≡ words_for (to_play other count more) → to_play script workers log ≡ to_play other count more
one-play script other workers count log more is also same =
    let script_is : script ≡ other = cc in
    let numeral : decimal workers ≡ decimal count = cc in
    let log_is : log ≡ more = cc in
    let workers_are = decimal-injective workers count (let h : workers < 2 ^ 64 = omega (arith, is.few_workers) in h) (let h : count < 2 ^ 64 = omega (arith, also.few_workers) in h) numeral in
    ap (λ (s : List ℕ). to_play s workers log) script_is ∙ ap (λ (n : ℕ). to_play other n log) workers_are ∙ ap (to_play other count) log_is

one-make : (seed frames other_seed other_frames : ℕ) (folder other : List ℕ) → IsMake seed frames folder → IsMake other_seed other_frames other → words_for (to_make seed frames folder) ≡ words_for (to_make other_seed other_frames other) → to_make seed frames folder ≡ to_make other_seed other_frames other
one-make seed frames other_seed other_frames folder other is also same =
    let seed_numeral : decimal seed ≡ decimal other_seed = cc in
    let frames_numeral : decimal frames ≡ decimal other_frames = cc in
    let folder_is : folder ≡ other = cc in
    let seed_is = decimal-injective seed other_seed is.seed_fits also.seed_fits seed_numeral in
    let frames_are = decimal-injective frames other_frames (let h : frames < 2 ^ 64 = omega (arith, is.few_frames) in h) (let h : other_frames < 2 ^ 64 = omega (arith, also.few_frames) in h) frames_numeral in
    ap (λ (n : ℕ). to_make n frames folder) seed_is ∙ ap (λ (n : ℕ). to_make other_seed n folder) frames_are ∙ ap (to_make other_seed other_frames) folder_is

same-words : (one other : Asked) → IsAllowed one → IsAllowed other → words_for one ≡ words_for other → one ≡ other
same-words (to_trace script) (to_trace other) is also same = one-trace script other same
same-words (to_play script workers log) (to_play other count more) is also same = one-play script other workers count log more is also same
same-words (to_make seed frames folder) (to_make other_seed other_frames other) is also same = one-make seed frames other_seed other_frames folder other is also same
same-words (to_clock script) (to_clock other) is also same = one-clock script other same
same-words (to_trace script) (to_play other count more) is also same = absurd (apart 112 116 _ _ (omega arith) refl refl (sym (ap first_byte same)))
same-words (to_trace script) (to_make other_seed other_frames other) is also same = absurd (apart 109 116 _ _ (omega arith) refl refl (sym (ap first_byte same)))
same-words (to_trace script) (to_clock other) is also same = absurd (apart 99 116 _ _ (omega arith) refl refl (sym (ap first_byte same)))
same-words (to_play script workers log) (to_trace other) is also same = absurd (apart 112 116 _ _ (omega arith) refl refl (ap first_byte same))
same-words (to_play script workers log) (to_make other_seed other_frames other) is also same = absurd (apart 109 112 _ _ (omega arith) refl refl (sym (ap first_byte same)))
same-words (to_play script workers log) (to_clock other) is also same = absurd (apart 99 112 _ _ (omega arith) refl refl (sym (ap first_byte same)))
same-words (to_make seed frames folder) (to_trace other) is also same = absurd (apart 109 116 _ _ (omega arith) refl refl (ap first_byte same))
same-words (to_make seed frames folder) (to_play other count more) is also same = absurd (apart 109 112 _ _ (omega arith) refl refl (ap first_byte same))
same-words (to_make seed frames folder) (to_clock other) is also same = absurd (apart 99 109 _ _ (omega arith) refl refl (sym (ap first_byte same)))
same-words (to_clock script) (to_trace other) is also same = absurd (apart 99 116 _ _ (omega arith) refl refl (ap first_byte same))
same-words (to_clock script) (to_play other count more) is also same = absurd (apart 99 112 _ _ (omega arith) refl refl (ap first_byte same))
same-words (to_clock script) (to_make other_seed other_frames other) is also same = absurd (apart 99 109 _ _ (omega arith) refl refl (ap first_byte same))
same-words (to_pack input output) (to_pack other more) is also same = one-pack input other output more same
same-words (to_unpack input output) (to_unpack other more) is also same = one-unpack input other output more same
same-words (to_trace script) (to_pack other more) is also same = absurd (apart 112 116 _ _ (omega arith) refl refl (sym (ap first_byte same)))
same-words (to_trace script) (to_unpack other more) is also same = absurd (apart 116 117 _ _ (omega arith) refl refl (ap first_byte same))
same-words (to_play script workers log) (to_pack other more) is also same = absurd (apart 97 108 _ _ (omega arith) refl refl (sym (ap second_byte same)))
same-words (to_play script workers log) (to_unpack other more) is also same = absurd (apart 112 117 _ _ (omega arith) refl refl (ap first_byte same))
same-words (to_make seed frames folder) (to_pack other more) is also same = absurd (apart 109 112 _ _ (omega arith) refl refl (ap first_byte same))
same-words (to_make seed frames folder) (to_unpack other more) is also same = absurd (apart 109 117 _ _ (omega arith) refl refl (ap first_byte same))
same-words (to_clock script) (to_pack other more) is also same = absurd (apart 99 112 _ _ (omega arith) refl refl (ap first_byte same))
same-words (to_clock script) (to_unpack other more) is also same = absurd (apart 99 117 _ _ (omega arith) refl refl (ap first_byte same))
same-words (to_pack input output) (to_trace other) is also same = absurd (apart 112 116 _ _ (omega arith) refl refl (ap first_byte same))
same-words (to_pack input output) (to_play other count more) is also same = absurd (apart 97 108 _ _ (omega arith) refl refl (ap second_byte same))
same-words (to_pack input output) (to_make other_seed other_frames other) is also same = absurd (apart 109 112 _ _ (omega arith) refl refl (sym (ap first_byte same)))
same-words (to_pack input output) (to_clock other) is also same = absurd (apart 99 112 _ _ (omega arith) refl refl (sym (ap first_byte same)))
same-words (to_pack input output) (to_unpack other more) is also same = absurd (apart 112 117 _ _ (omega arith) refl refl (ap first_byte same))
same-words (to_unpack input output) (to_trace other) is also same = absurd (apart 116 117 _ _ (omega arith) refl refl (sym (ap first_byte same)))
same-words (to_unpack input output) (to_play other count more) is also same = absurd (apart 112 117 _ _ (omega arith) refl refl (sym (ap first_byte same)))
same-words (to_unpack input output) (to_make other_seed other_frames other) is also same = absurd (apart 109 117 _ _ (omega arith) refl refl (sym (ap first_byte same)))
same-words (to_unpack input output) (to_clock other) is also same = absurd (apart 99 117 _ _ (omega arith) refl refl (sym (ap first_byte same)))
same-words (to_unpack input output) (to_pack other more) is also same = absurd (apart 112 117 _ _ (omega arith) refl refl (sym (ap first_byte same)))
same-words (to_audit script log) (to_audit other more) is also same = one-audit script other log more same
same-words (to_trace script) (to_audit other more) is also same = absurd (apart 97 116 _ _ (omega arith) refl refl (sym (ap first_byte same)))
same-words (to_audit script log) (to_trace other) is also same = absurd (apart 97 116 _ _ (omega arith) refl refl (ap first_byte same))
same-words (to_play script workers log) (to_audit other more) is also same = absurd (apart 97 112 _ _ (omega arith) refl refl (sym (ap first_byte same)))
same-words (to_audit script log) (to_play other count more) is also same = absurd (apart 97 112 _ _ (omega arith) refl refl (ap first_byte same))
same-words (to_make seed frames folder) (to_audit other more) is also same = absurd (apart 97 109 _ _ (omega arith) refl refl (sym (ap first_byte same)))
same-words (to_audit script log) (to_make other_seed other_frames other) is also same = absurd (apart 97 109 _ _ (omega arith) refl refl (ap first_byte same))
same-words (to_clock script) (to_audit other more) is also same = absurd (apart 97 99 _ _ (omega arith) refl refl (sym (ap first_byte same)))
same-words (to_audit script log) (to_clock other) is also same = absurd (apart 97 99 _ _ (omega arith) refl refl (ap first_byte same))
same-words (to_pack input output) (to_audit other more) is also same = absurd (apart 97 112 _ _ (omega arith) refl refl (sym (ap first_byte same)))
same-words (to_audit script log) (to_pack other more) is also same = absurd (apart 97 112 _ _ (omega arith) refl refl (ap first_byte same))
same-words (to_unpack input output) (to_audit other more) is also same = absurd (apart 97 117 _ _ (omega arith) refl refl (sym (ap first_byte same)))
same-words (to_audit script log) (to_unpack other more) is also same = absurd (apart 97 117 _ _ (omega arith) refl refl (ap first_byte same))

pub one-asked : (words : List (List ℕ)) (one other : Asked) → AreWordsOf words one → AreWordsOf words other → one ≡ other
one-asked words one other (is, allowed) (also, other_allowed) = same-words one other allowed other_allowed (sym is ∙ also)
