-- Three files that are made one after the other.
use Rattle.std.proofs.Common.{◌≡◌, ◌≢◌, ℕ, ◌+◌, ◌%◌, ◌^◌, ◌<◌, ◌≤◌, List, ◌∷◌, length, get_or, Some, Option, Ok, Err, IsTrue, refl, sym, ap, ◌∙◌, subst, arith, inl, inr, Bool}
use Rattle.std.proofs.lemmas.List.{append_cancel_left, take_all}
use Rattle.outside_io.specs.Causes.{Rose}
use Rattle.outside_io.specs.Files.{Outside, GoesOn, IsFrontOf, TellsAbsence}
use Rattle.outside_io.specs.Whole.{IsKeptOrFrontOf, HasWriteReason}
use Rattle.outside_io.specs.declared.media.Refused.{Refused}
use Rattle.outside_io.specs.declared.media.Refused.TheVariants.{Absent as NotMade, Failed as NotWritten, OutOfMemory as NoRoom}
use Rattle.omx_types.specs.declared.fault.Fault.{Fault}
use Rattle.omx_types.specs.declared.fault.Fault.TheVariants.{Absent}
use Rattle.omx_types.specs.declared.fault.Which.TheVariants.{Made}
use Rattle.load_gen.specs.Made.{Makes, AreMade, ArePartlyMade, MayRefuse, HasReason, fault_at}
use Rattle.load_gen.specs.Made.MayRefuse.{first as may_first, second as may_second, third as may_third}
use Rattle.load_gen.specs.Samples.{wav, wav_from}
use Rattle.load_gen.specs.Script.{in_folder, first_name, second_name, script_name, script}

in_folder-other : (folder one other : List ℕ) → one ≢ other → in_folder folder one ≢ in_folder folder other
in_folder-other folder one other differ is =
    let rest : 47 ∷ one ≡ 47 ∷ other = append_cancel_left folder (47 ∷ one) (47 ∷ other) is in
    differ (cc)

first≢second : (folder : List ℕ) → first_name folder ≢ second_name folder
first≢second folder = in_folder-other folder _ _ (λ is. omega (arith, ap (λ (xs : List ℕ). get_or xs 0 0) is))

first≢script : (folder : List ℕ) → first_name folder ≢ script_name folder
first≢script folder = in_folder-other folder _ _ (λ is. omega (arith, ap (λ (xs : List ℕ). get_or xs 0 0) is))

second≢script : (folder : List ℕ) → second_name folder ≢ script_name folder
second≢script folder = in_folder-other folder _ _ (λ is. omega (arith, ap (λ (xs : List ℕ). get_or xs 0 0) is))

GoesOn-then : (old mid new : Outside) → GoesOn old mid → GoesOn mid new → GoesOn old new
GoesOn-then old mid new one more = record {
  tells = more.tells ∙ one.tells;
  ends = more.ends ∙ one.ends;
  may_refuse = more.may_refuse ∙ one.may_refuse;
  read_faults = (let a = one.read_faults in let b = more.read_faults in omega arith);
  write_faults = (let a = one.write_faults in let b = more.write_faults in omega arith);
  absences = (let a = one.absences in let b = more.absences in omega arith);
}

GoesOn-start : (old : Outside) → GoesOn old old
GoesOn-start old = record { tells = refl; ends = refl; may_refuse = refl; read_faults = omega arith; write_faults = omega arith; absences = omega arith }

Rose-earlier : (old mid new : ℕ) → old ≤ mid → Rose mid new → Rose old new
Rose-earlier old mid new le rose = omega arith

reason_at : (folder name : List ℕ) (start old new : Outside) (number : ℕ) (refused : Refused) → GoesOn start old → HasWriteReason name old new refused → (IsTrue (start.may_refuse name) → MayRefuse folder start number) → HasReason folder start new (fault_at number refused)
reason_at folder name start old new number NotMade goes (rose, may, _) refuse = (
  Rose-earlier start.absences old.absences new.absences goes.absences rose,
  refuse (subst (λ (m : List ℕ → Bool). IsTrue (m name)) goes.may_refuse may),
)
reason_at folder name start old new number NotWritten goes rose refuse = Rose-earlier start.write_faults old.write_faults new.write_faults goes.write_faults rose
reason_at folder name start old new number NoRoom goes files refuse = tt

seed_first : (seed : ℕ) → seed < 2 ^ 64 → seed ≡ (seed + 0) % 2 ^ 64
seed_first seed small = omega arith

whole_is_front : (held : Option (List ℕ)) (text : List ℕ) → held ≡ Some text → IsFrontOf held text
whole_is_front held text is = (length text, is ∙ ap Some (sym (take_all (length text) text (omega arith))))

-- the first file was refused
pub partly-first : (seed frames : ℕ) (folder : List ℕ) (start one : Outside) (refused : Refused) → seed < 2 ^ 64 → Makes (first_name folder) (wav_from seed frames) start one (Err refused) → IsTrue start.tells → ArePartlyMade seed frames folder start one
partly-first seed frames folder start one refused small makes tells = record {
  first = subst (λ (x : ℕ). IsKeptOrFrontOf (start.file (first_name folder)) (one.file (first_name folder)) (wav_from x frames)) (seed_first seed small) (makes.front tells);
  second = inl (makes.others tells (second_name folder) (λ is. first≢second folder (sym is)));
  script_text = inl (makes.others tells (script_name folder) (λ is. first≢script folder (sym is)));
}

-- the second file was refused
pub partly-second : (seed frames : ℕ) (folder : List ℕ) (start one two : Outside) (made : Unit {0}) (refused : Refused) → seed < 2 ^ 64 → Makes (first_name folder) (wav_from seed frames) start one (Ok made) → Makes (second_name folder) (wav_from ((seed + 1) % 2 ^ 64) frames) one two (Err refused) → IsTrue start.tells → ArePartlyMade seed frames folder start two
partly-second seed frames folder start one two made refused small first second tells =
    let tells_one : IsTrue one.tells = subst IsTrue (sym first.goes_on.tells) tells in
    record {
      first = inr (whole_is_front _ _ (second.others tells_one (first_name folder) (first≢second folder) ∙ first.held tells ∙ ap (λ (x : ℕ). Some (wav_from x frames)) (seed_first seed small)));
      second = subst (λ (held : Option (List ℕ)). IsKeptOrFrontOf held (two.file (second_name folder)) (wav seed 1 frames)) (first.others tells (second_name folder) (λ is. first≢second folder (sym is))) (second.front tells_one);
      script_text = inl (second.others tells_one (script_name folder) (λ is. second≢script folder (sym is)) ∙ first.others tells (script_name folder) (λ is. first≢script folder (sym is)));
    }

-- the script was refused
pub partly-third : (seed frames : ℕ) (folder : List ℕ) (start one two three : Outside) (made also : Unit {0}) (refused : Refused) → seed < 2 ^ 64 → Makes (first_name folder) (wav_from seed frames) start one (Ok made) → Makes (second_name folder) (wav_from ((seed + 1) % 2 ^ 64) frames) one two (Ok also) → Makes (script_name folder) (script folder) two three (Err refused) → IsTrue start.tells → ArePartlyMade seed frames folder start three
partly-third seed frames folder start one two three made also refused small first second third tells =
    let tells_one : IsTrue one.tells = subst IsTrue (sym first.goes_on.tells) tells in
    let tells_two : IsTrue two.tells = subst IsTrue (sym second.goes_on.tells) tells_one in
    record {
      first = inr (whole_is_front _ _ (third.others tells_two (first_name folder) (first≢script folder) ∙ second.others tells_one (first_name folder) (first≢second folder) ∙ first.held tells ∙ ap (λ (x : ℕ). Some (wav_from x frames)) (seed_first seed small)));
      second = inr (whole_is_front _ _ (third.others tells_two (second_name folder) (second≢script folder) ∙ second.held tells_one));
      script_text = subst (λ (held : Option (List ℕ)). IsKeptOrFrontOf held (three.file (script_name folder)) (script folder)) (second.others tells_one (script_name folder) (λ is. second≢script folder (sym is)) ∙ first.others tells (script_name folder) (λ is. first≢script folder (sym is))) (third.front tells_two);
    }

-- all three were made
pub all_made : (seed frames : ℕ) (folder : List ℕ) (start one two three : Outside) (made also last : Unit {0}) → seed < 2 ^ 64 → Makes (first_name folder) (wav_from seed frames) start one (Ok made) → Makes (second_name folder) (wav_from ((seed + 1) % 2 ^ 64) frames) one two (Ok also) → Makes (script_name folder) (script folder) two three (Ok last) → IsTrue start.tells → AreMade seed frames folder three
all_made seed frames folder start one two three made also last small first second third tells =
    let tells_one : IsTrue one.tells = subst IsTrue (sym first.goes_on.tells) tells in
    let tells_two : IsTrue two.tells = subst IsTrue (sym second.goes_on.tells) tells_one in
    record {
      first = third.others tells_two (first_name folder) (first≢script folder) ∙ second.others tells_one (first_name folder) (first≢second folder) ∙ first.held tells ∙ ap (λ (x : ℕ). Some (wav_from x frames)) (seed_first seed small);
      second = third.others tells_two (second_name folder) (second≢script folder) ∙ second.held tells_one;
      script_text = third.held tells_two;
    }

-- the reasons of the three
pub reason-first : (folder text : List ℕ) (start one : Outside) (refused : Refused) → Makes (first_name folder) text start one (Err refused) → HasReason folder start one (fault_at 1 refused)
reason-first folder text start one refused makes = reason_at folder (first_name folder) start start one 1 refused (GoesOn-start start) makes.reason may_first

pub reason-second : (folder a b : List ℕ) (start one two : Outside) (made : Unit {0}) (refused : Refused) → Makes (first_name folder) a start one (Ok made) → Makes (second_name folder) b one two (Err refused) → HasReason folder start two (fault_at 2 refused)
reason-second folder a b start one two made refused first_made makes = reason_at folder (second_name folder) start one two 2 refused first_made.goes_on makes.reason may_second

pub reason-third : (folder a b c : List ℕ) (start one two three : Outside) (made also : Unit {0}) (refused : Refused) → Makes (first_name folder) a start one (Ok made) → Makes (second_name folder) b one two (Ok also) → Makes (script_name folder) c two three (Err refused) → HasReason folder start three (fault_at 3 refused)
reason-third folder a b c start one two three made also refused first_made second_made makes =
    reason_at folder (script_name folder) start two three 3 refused (GoesOn-then start one two first_made.goes_on second_made.goes_on) makes.reason may_third

-- ---- the count of absences

-- a file that was refused as absent is told so
refused_told : (name text : List ℕ) (old new : Outside) (number : ℕ) (refused : Refused) (fault : Fault) → fault ≡ fault_at number refused → Makes name text old new (Err refused) → TellsAbsence Absent old new fault
refused_told name text old new number refused fault is makes = λ none.
    makes.unabsent (λ e. (let same : refused ≡ NotMade = cc in none (Made number) (is ∙ ap (fault_at number) same)))

-- one that was made left the count
made_stands : (name text : List ℕ) (old new : Outside) (made : Unit {0}) → Makes name text old new (Ok made) → new.absences ≡ old.absences
made_stands name text old new made makes = makes.unabsent (λ e. cc)

pub told-first : (folder text : List ℕ) (start one : Outside) (refused : Refused) (fault : Fault) → fault ≡ fault_at 1 refused → Makes (first_name folder) text start one (Err refused) → TellsAbsence Absent start one fault
told-first folder text start one refused fault is makes = refused_told (first_name folder) text start one 1 refused fault is makes

pub told-second : (folder a b : List ℕ) (start one two : Outside) (made : Unit {0}) (refused : Refused) (fault : Fault) → fault ≡ fault_at 2 refused → Makes (first_name folder) a start one (Ok made) → Makes (second_name folder) b one two (Err refused) → TellsAbsence Absent start two fault
told-second folder a b start one two made refused fault is first_made makes = λ none.
    refused_told (second_name folder) b one two 2 refused fault is makes none ∙ made_stands (first_name folder) a start one made first_made

pub told-third : (folder a b c : List ℕ) (start one two three : Outside) (made also : Unit {0}) (refused : Refused) (fault : Fault) → fault ≡ fault_at 3 refused → Makes (first_name folder) a start one (Ok made) → Makes (second_name folder) b one two (Ok also) → Makes (script_name folder) c two three (Err refused) → TellsAbsence Absent start three fault
told-third folder a b c start one two three made also refused fault is first_made second_made makes = λ none.
    refused_told (script_name folder) c two three 3 refused fault is makes none
    ∙ (made_stands (second_name folder) b one two also second_made ∙ made_stands (first_name folder) a start one made first_made)

pub all-stand : (folder a b c : List ℕ) (start one two three : Outside) (made also last : Unit {0}) → Makes (first_name folder) a start one (Ok made) → Makes (second_name folder) b one two (Ok also) → Makes (script_name folder) c two three (Ok last) → three.absences ≡ start.absences
all-stand folder a b c start one two three made also last first_made second_made third_made =
    made_stands (script_name folder) c two three last third_made
    ∙ (made_stands (second_name folder) b one two also second_made ∙ made_stands (first_name folder) a start one made first_made)
