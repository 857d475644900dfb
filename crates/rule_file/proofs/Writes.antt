-- The three parts of a file, written one after the other. Assumes nothing.
use Rattle.std.proofs.Common.{◌≡◌, ℕ, ◌+◌, ◌-◌, ◌*◌, ◌≤◌, List, ◌++◌, length, take, drop, ap, ◌∙◌, arith, length-append}
use borrow.Rule.Slice.PartMut.{put_mid}
use Rattle.std.specs.List.{flat_map}
use Rattle.std.proofs.lemmas.List.{append_assoc, length-drop}
use Rattle.calculus.specs.declared.entry.Entry.{Entry}
use Rattle.calculus.specs.declared.node.Node.{Node}
use Rattle.rule_file.specs.Files.{head_bytes, entry_bytes, node_bytes, file_of}
use Rattle.rule_file.specs.Writing.{file_length}
use Rattle.rule_file.proofs.Marks.{entry_six}
use Rattle.rule_file.proofs.Pieces.{put_next, length_joined}

-- first the head, then the part behind it, then the part behind both
pub put_three : (es added : List Entry) (ns : List Node) (was head first second third : List ℕ) → 6 ≤ length es → added ≡ drop 6 es
    → head ≡ head_bytes (length added) (length ns) → first ≡ head ++ drop 6 was
    → second ≡ flat_map entry_bytes added ++ drop (6 * length added) (take (length first - 6) (drop 6 first))
    → third ≡ flat_map node_bytes ns ++ drop (6 * length ns)
    (take (length (put_mid 6 (length first - 6) first second) - 6 * (1 + length added))
    (drop (6 * (1 + length added)) (put_mid 6 (length first - 6) first second)))
    → put_mid (6 * (1 + length added)) (length (put_mid 6 (length first - 6) first second) - 6 * (1 + length added))
    (put_mid 6 (length first - 6) first second) third ≡ file_of es ns ++ drop (file_length (length es) (length ns)) was
put_three es added ns was head first second third given is says wrote1 wrote2 wrote3 =
    let many : length added ≡ length es - 6 = ap length is ∙ length-drop 6 es in
    let two : put_mid 6 (length first - 6) first second ≡ (head ++ flat_map entry_bytes added) ++ drop (6 + 6 * length added) was =
    put_next was head (flat_map entry_bytes added) first second 6 (6 * length added) (ap length says) wrote1 wrote2 in
    let so_far : 6 + 6 * length added ≡ 6 * (1 + length added) = omega arith in
    let long : length (head ++ flat_map entry_bytes added) ≡ 6 * (1 + length added) =
    length-append head _ ∙ omega (arith, ap length says, length_joined entry_bytes entry_six added) in
    let whole : 6 * (1 + length added) + 6 * length ns ≡ file_length (length es) (length ns) = omega arith in
    put_next was (head ++ flat_map entry_bytes added) (flat_map node_bytes ns) _ third (6 * (1 + length added)) (6 * length ns) long
    (two ∙ ap (λ n. (head ++ flat_map entry_bytes added) ++ drop n was) so_far) wrote3
    ∙ ap (λ l. l ++ drop (6 * (1 + length added) + 6 * length ns) was)
    (append_assoc head _ _ ∙ ap (λ l. l ++ (flat_map entry_bytes added ++ flat_map node_bytes ns)) says
    ∙ ap (λ n. head_bytes n (length ns) ++ (flat_map entry_bytes added ++ flat_map node_bytes ns)) many
    ∙ ap (λ l. head_bytes (length es - 6) (length ns) ++ (flat_map entry_bytes l ++ flat_map node_bytes ns)) is)
    ∙ ap (λ n. file_of es ns ++ drop n was) whole
