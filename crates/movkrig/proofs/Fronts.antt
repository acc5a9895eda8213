-- What a call has written at the front of a buffer is the answer that it was to write.
use Rattle.std.proofs.Common.{◌≡◌, ℕ, List, length, take, drop, vec_items, vec_len, Vec, sym, ap, ◌∙◌, subst}
use Rattle.std.proofs.lemmas.List.{with_items_is, take_at}
use Rattle.std.specs.Vec.{with_items}
use Rattle.std.specs.declared.alloc.Global.{Global}
use Rattle.codes.specs.Reading.{Answer, answered, refused}
use Rattle.codes.specs.Writing.{Wrote}

pub answered_front : (a : Answer (List ℕ)) (before after : List ℕ) (n : ℕ) → Wrote a before (answered n) after → answered (take n after) ≡ a
answered_front (answered l) before after n w =
    let long : length l ≡ n = cc w.answer in
    ap answered (ap (take n) w.buffer ∙ take_at l (drop (length l) before) n long)
answered_front (refused m) before after n w = cc w.answer

pub refused_front : (a : Answer (List ℕ)) (before after : List ℕ) (n : ℕ) → Wrote a before (refused n) after → refused n ≡ a
refused_front (answered l) before after n w = cc w.answer
refused_front (refused m) before after n w = let same : n ≡ m = cc w.answer in ap refused same

-- a Vec that was lent as such a buffer
pub wrote_lent : {a : Answer (List ℕ)} {before : List ℕ} {r : Answer ℕ} (v : Vec ℕ Global) (after : List ℕ) → length after ≡ vec_len v → Wrote a before r after → Wrote a before r (vec_items (with_items v after))
wrote_lent {a} {before} {r} v after long w = subst (Wrote a before r) (sym (with_items_is v after long)) w
