-- Pairs of hexadecimal digits, cut off one by one, give the bytes of their word.
use Rattle.std.proofs.Common.{◌≡◌, ℕ, zero, suc, ◌+◌, ◌*◌, ◌/◌, List, ◌∷◌, map, length, get_or, drop, take, refl, ap, ap₂, ◌∙◌, arith}
use Rattle.std.proofs.lemmas.List.{drop-drop, get_or-drop, get_or-take}
use Rattle.std.specs.Simd.{first_chunks}
use Rattle.std.specs.List.{range_with_len}
use Rattle.movkrig.specs.Hexadecimal.{hex_byte, hex_bytes, hex_value}

-- the byte of a pair
abbrev pub pair_byte : List ℕ → ℕ
pair_byte pair = 16 * hex_value (get_or pair 0 0) + hex_value (get_or pair 1 0)

module _ (w : List ℕ) where
  first_byte : (n : ℕ) → pair_byte (take 2 (drop n w)) ≡ 16 * hex_value (get_or w (n + 0) 0) + hex_value (get_or w (n + 1) 0)
  first_byte n =
      ap₂ (λ high low. 16 * hex_value high + hex_value low)
      (get_or-take 2 (drop n w) 0 0 (omega arith) ∙ get_or-drop n w 0 0)
      (get_or-take 2 (drop n w) 1 0 (omega arith) ∙ get_or-drop n w 1 0)

  bytes_from : (k i : ℕ) → map pair_byte (first_chunks 2 k (drop (2 * i) w)) ≡ map (hex_byte w) (range_with_len i k)
  bytes_from zero i = refl
  bytes_from (suc k) i =
      let here : pair_byte (take 2 (drop (2 * i) w)) ≡ hex_byte w i = first_byte (2 * i) ∙ ap (λ n. 16 * hex_value (get_or w n 0) + hex_value (get_or w (2 * i + 1) 0)) (omega arith) in
      let cut : drop 2 (drop (2 * i) w) ≡ drop (2 * (i + 1)) w = drop-drop 2 (2 * i) w ∙ ap (λ n. drop n w) (omega arith) in
      ap₂ (λ b bs. b ∷ bs) here (ap (λ l. map pair_byte (first_chunks 2 k l)) cut ∙ bytes_from k (i + 1))

  pub pairs_bytes : map pair_byte (first_chunks 2 (length w / 2) w) ≡ hex_bytes w
  pairs_bytes = bytes_from (length w / 2) 0
