-- One link more, the first that can't be, and the ports of one component more.
use Rattle.std.proofs.Common.{◌≡◌, inl, inr, ℕ, ◌+◌, ◌<◌, true, false, List, [], ◌∷◌, ◌++◌, length, take, Some, refl, sym, ◌∙◌, ap, subst, arith}
use Rattle.std.specs.Prelude.{slice_get}
use Rattle.std.proofs.Math.Seq.{take-append_seam}
use Rattle.std.proofs.lemmas.List.{take-append-le, take-map}
use Rattle.script_lang.specs.declared.play_line.PartLine.{PartLine}
use Rattle.script_lang.specs.declared.play_line.LinkLine.{LinkLine}
use Rattle.play_forms.specs.declared.joint.Joint.{Joint}
use Rattle.play_forms.specs.Joints.{AllJoin, IsTwice, can_join, joint_of, joints_of}
use Rattle.stream_plan.proofs.Lists.{map_take_more, slice_get_more, slice_get_mapped}

pub joined_more : (parts : List PartLine) (joints : List Joint) (joint : Joint) → AllJoin parts joints → can_join parts joints joint ≡ true → AllJoin parts (joints ++ (joint ∷ []))
joined_more parts joints joint all can k other e =
    elim (slice_get_more joints joint k other e) [
      | inl h ↦
          let front : take k (joints ++ (joint ∷ [])) ≡ take k joints = let b : k < length joints = h.0 in take-append-le k joints (joint ∷ []) (omega arith) in
          subst (λ front. can_join parts front other ≡ true) (sym front) (all k other h.1)
      | inr h ↦
          let front : take k (joints ++ (joint ∷ [])) ≡ joints = ap (λ i. take i (joints ++ (joint ∷ []))) h.0 ∙ take-append_seam joints (joint ∷ []) in
          subst (λ front. can_join parts front other ≡ true) (sym front) (subst (λ j. can_join parts joints j ≡ true) (sym h.1) can)
    ]

pub twice_there : (parts : List PartLine) (links : List LinkLine) (k : ℕ) (link : LinkLine) (joints : List Joint) → slice_get links k ≡ Some link
    → joints ≡ joints_of parts (take k links) → AllJoin parts joints → can_join parts joints (joint_of parts link) ≡ false → IsTwice parts (joints_of parts links) link.line
twice_there parts links k link joints there these all clash =
    let front : take k (joints_of parts links) ≡ joints = take-map (joint_of parts) k links ∙ sym these in
    record {
      number = k;
      joint = joint_of parts link;
      there = slice_get_mapped (joint_of parts) links k link there;
      its_line = refl;
      clashes = subst (λ front. can_join parts front (joint_of parts link) ≡ false) (sym front) clash;
      first = subst (AllJoin parts) (sym front) all;
    }

pub joints_more : (parts : List PartLine) (links : List LinkLine) (k : ℕ) (link : LinkLine) (joints : List Joint) → slice_get links k ≡ Some link
    → joints ≡ joints_of parts (take k links) → joints ++ (joint_of parts link ∷ []) ≡ joints_of parts (take (k + 1) links)
joints_more parts links k link joints there these =
    ap (λ front. front ++ (joint_of parts link ∷ [])) these ∙ sym (map_take_more (joint_of parts) links k link there)
