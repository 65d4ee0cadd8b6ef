-- From the mask of one load of sixty-four bytes to the bytes before the first line feed.
use Rattle.syslog_lines.proofs.Names.{◌≡◌, ◌+◌, ◌^◌, cond, Bool, List, length, arith, cases_eq, eqb-true, length-chunk}
use Rattle.syslog_lines.proofs.Names.{ℕ, ◌≤◌, eqb, not, map, sym, ap, ◌∙◌, inl, inr}
use Rattle.std.proofs.Common.{◌%◌}
use Rattle.std.{proofs.lemmas.Bool.eqb-false, proofs.lemmas.Bool.cond_both, specs.Int.trailing_zeros, specs.Int.w64}
use Rattle.std.proofs.lemmas.Simd.{run_in_chunk_fails, run_in_chunk_le, run_in_chunk_stops, leading_from_mask_l}
use Rattle.std.proofs.lemmas.Simd.{map-map, mask_l-mod, trailing_mask_l}
use Rattle.std.{proofs.lemmas.List.length-map, specs.Int.Count.trailing_of_zero, specs.List.prefix_len}
use lib.Lanes.{chunk, mask_l, top}
use Rattle.syslog_lines.specs.Search.{IsRun}

-- the lane of a line feed is all ones after the comparison, and that of another byte all zeros
abbrev compared : ℕ → ℕ
compared byte = cond (eqb byte 10) 255 0

abbrev stops : ℕ → Bool
stops byte = top 7 (compared byte)

run_is : (v : List ℕ) → length v ≡ 64
    → trailing_zeros w64 (mask_l (map stops v)) ≡ prefix_len (λ byte. not (stops byte)) v
run_is v long =
    elim (cases_eq (mask_l (map stops v)) 0) [
      | inl none ↦ ap (trailing_zeros w64) none ∙ trailing_of_zero 64 ∙ sym (leading_from_mask_l stops v none ∙ long)
      | inr some ↦ trailing_mask_l stops 64 v (omega arith) (omega arith)
    ]

-- a lane stops just at a line feed
stops_is : (byte : ℕ) → stops byte ≡ eqb byte 10
stops_is byte = cond_both (eqb byte 10) 255 0 (λ n. top 7 n ≡ eqb byte 10) sym sym

module _ (bytes : List ℕ) (at run : ℕ) (lanes : List ℕ) (room : at + 64 ≤ length bytes)
    (found : run ≡ trailing_zeros w64 (mask_l (map (top 7) lanes) % 2 ^ 64))
    (compares : lanes ≡ map compared (chunk at 64 bytes)) where
  long : length (chunk at 64 bytes) ≡ 64
  long = length-chunk at 64 bytes room

  counted : run ≡ prefix_len (λ byte. not (stops byte)) (chunk at 64 bytes)
  counted =
      let v = chunk at 64 bytes in
      let mask = ap (λ l. mask_l l % 2 ^ 64) (ap (map (top 7)) compares ∙ map-map (top 7) compared v)
      ∙ mask_l-mod (map stops v) 64 (omega (arith, length-map v stops, long)) in
      found ∙ ap (trailing_zeros w64) mask ∙ run_is v long

  -- the lowest bit is as far along as there are bytes before the first line feed
  pub run_from_mask : IsRun bytes at run
  run_from_mask = record {
    within = run_in_chunk_le stops bytes at 64 run 0 room counted;
    before = λ k from to.
        eqb-false _ 10 (sym (stops_is _) ∙ run_in_chunk_fails stops bytes at 64 run 0 room counted k from to);
    stops = λ short. eqb-true _ 10 (sym (stops_is _) ∙ run_in_chunk_stops stops bytes at 64 run 0 room counted short);
  }
