use Rattle.std.proofs.Common.{◌≡◌, ◌+◌, [], ◌∷◌, ◌++◌, map, length, drop, replicate, sym, ap, ◌∙◌, ap₂}
use Rattle.std.proofs.lemmas.List.{drop-drop, length-map, map-append}
use Rattle.fields.specs.Numbered.{numbered}
use Rattle.codes.specs.Division.{divided, lessened, remainder}
use Rattle.codes.specs.Texts.{character}
use Rattle.codes.specs.Writing.{completed, head_numbers, line}
use Rattle.codes.proofs.Quotients.{length_lessened}
use Rattle.codes.proofs.Registers.{numbered_word}
use Rattle.codes.proofs.Written.{pieces, rest_is, four_entries}
use Rattle.codes.proofs.writing.write_line.Goals as goal

pub write_symbols-requires : goal.write_symbols-requires
write_symbols-requires g c = c.split_at_mut-second.ensures.front_len

pub write_symbols-requires-2 : goal.write_symbols-requires-2
write_symbols-requires-2 g c = c.split_at_mut-third.ensures.front_len

pub write_symbols-requires-3 : goal.write_symbols-requires-3
write_symbols-requires-3 g c =
    let F = g.K.Symbol.Field.ops in
    c.split_at_mut-fourth.ensures.front_len ∙ c.check_symbols.ensures
    ∙ sym (ap length c.numbers.ensures ∙ length-map c.complete.new.self F.number ∙ ap length c.complete.ensures ∙ length_lessened F g.met.K.Symbol.Field.lawful g.K.Kind.code.target _ ∙ g.met.K.Kind.lawful.target_length)

pub returns : goal.returns
returns g c =
    let F = g.K.Symbol.Field.ops in
    let laws = g.met.K.Symbol.Field.lawful in
    let K = g.K.Kind.code in
    let o = c.args.out.now in
    let id = c.args.identifier.now in
    let pl = c.args.payload.now in
    let head = head_numbers K c.args.threshold id c.args.index in
    let heads : (c.place_of.result ∷ _ ∷ _ ∷ _ ∷ _ ∷ c.args.index ∷ []) ≡ head = ap₂ (λ t us. t ∷ (us ++ (c.args.index ∷ []))) c.place_of.ensures (four_entries id c.told-identifier) in
    let h = map (numbered F) head in
    let p = map (numbered F) pl in
    let zeros = replicate K.checks F.zero in
    let n = 9 + length pl + K.checks in
    ap₂ ◌++◌ (c.copy_from_slice.ensures.after ∙ c.prefix.ensures)
    (ap₂ ◌++◌ (c.write_symbols.ensures ∙ ap (λ ns. map (character F K) (map (numbered F) ns)) heads)
    (ap₂ ◌++◌ c.write_symbols-2.ensures
    (ap₂ ◌++◌
    (c.write_symbols-3.ensures
    ∙ ap (map (character F K))
    (ap (map (numbered F)) c.numbers.ensures ∙ numbered_word F laws c.complete.new.self ∙ c.complete.ensures
    ∙ ap (lessened F K.target)
    (c.shift_zeros.ensures
    ∙ ap (λ r. divided F K.generator r zeros) (c.shift_all-2.ensures ∙ ap (λ r. divided F K.generator r p) (c.shift_all.ensures ∙ ap₂ (divided F K.generator) c.started-register.ensures (ap (map (numbered F)) heads)))
    ∙ rest_is F laws K g.met.K.Kind.lawful h p zeros)))
    (c.split_at_mut-fourth.ensures.back
    ∙ ap (drop c.check_symbols.result) (c.split_at_mut-third.ensures.back ∙ ap (drop (length pl)) (c.split_at_mut-second.ensures.back ∙ ap (drop 6) c.split_at_mut-first.ensures.back ∙ drop-drop 6 3 o) ∙ drop-drop (length pl) 9 o)
    ∙ drop-drop c.check_symbols.result (9 + length pl) o ∙ ap (λ k. drop (9 + length pl + k) o) c.check_symbols.ensures))))
    ∙ pieces F laws K g.met.K.Kind.lawful h p (lessened F K.target (remainder F K.generator (K.start ++ ((h ++ p) ++ zeros)))) (drop n o)
    ∙ ap (λ w. line F K (completed F K w) ++ drop n o) (sym (map-append (numbered F) head pl))
