use Rattle.std.proofs.Common.{◌≡◌, sym, subst, rules, is_lt, List}
use Rattle.std.proofs.lemmas.Fn.{always_returns_same}
use Rattle.std.proofs.lemmas.List.Sorted.{ranks_by}
use Rattle.std.specs.List.Sorted.{IsSortedByKey}
use Rattle.std.specs.Cmp.Lexicographic.{nat_list_cmp_total}
use Rattle.mas_explore.specs.declared.listing.Shown.{Shown}
use Rattle.mas_explore_listing.specs.Text.{text_order}
use Rattle.mas_explore_listing.proofs.sorting.sorted.Goals as goal

pub returns-clause-sorted : goal.returns-clause-sorted
returns-clause-sorted c =
    let s = c.in_ok-sort_by.ensures.sorted (λ x y. is_lt (text_order x.text y.text)) (ranks_by nat_list_cmp_total (λ (e : Shown). e.text))
    (always_returns_same _ (λ a r. is_lt r ≡ is_lt (text_order a.0.now.text a.1.0.now.text)) _ (λ a r f k. (search rules, search rules))) in
    subst (λ (xs : List Shown). IsSortedByKey (λ (e : Shown). e.text) text_order xs) (sym c.from_vec.ensures) s
