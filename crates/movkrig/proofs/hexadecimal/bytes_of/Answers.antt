use Rattle.std.proofs.Common.{rules, ◌≡◌, ◌/◌, IfOk, length, map, subst, vec_items}
use Rattle.std.specs.Simd.{first_chunks}
use Rattle.movkrig.proofs.Pairs.{pair_byte, pairs_bytes}
use Rattle.movkrig.proofs.hexadecimal.bytes_of.Goals as goal

pub returns : goal.returns
returns c =
    let w = c.args.word.now in
    let mapped : IfOk c.collect.result (λ v. vec_items v ≡ map pair_byte (first_chunks 2 (length w / 2) w)) = search rules in
    subst (λ bytes. IfOk c.collect.result (λ v. vec_items v ≡ bytes)) (pairs_bytes w) mapped
