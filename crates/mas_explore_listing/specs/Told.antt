-- What is told of all runs from a start.
use Rattle.std.specs.Prelude.{ℕ, ◌≡◌, Option, None, Some}
use Rattle.std.specs.List.Sorted.{IsSortedByKey}
use Rattle.mas_mind.specs.Minds.{Kind}
use Rattle.mas_report.specs.declared.options.Options.{Options}
use Rattle.mas_free.specs.declared.view.View.{View}
use Rattle.mas_free.specs.Covers.{Start}
use Rattle.mas_explore.specs.declared.listing.Shown.{Shown}
use Rattle.mas_explore.specs.declared.listing.Listing.{Listing}
use Rattle.mas_explore.specs.Listings.{AreDistinct, AreShown, Reaches}
use Rattle.mas_explore_listing.specs.declared.answers.Question.{Question}
use Rattle.mas_explore_listing.specs.declared.answers.Answer.{Answer}
use Rattle.mas_explore_listing.specs.declared.answers.Answer.TheVariants.{Holds, Fails, Unknown}
use Rattle.mas_explore_listing.specs.declared.telling.Told.{Told}
use Rattle.mas_explore_listing.specs.Questions.{answer}
use Rattle.mas_explore_listing.specs.Text.{text_order, listing_text, answered_text}

-- the status with which a program ends that gives this answer
abbrev pub answer_code : Answer → ℕ
answer_code Holds = 0
answer_code (Fails place) = 1
answer_code Unknown = 10

-- the list, or what it answers
abbrev pub told : Options → Listing → Option Question → Told
told o f None = record { text = listing_text o f; code = 0 }
told o f (Some q) = record { text = answered_text o f q (answer q f); code = answer_code (answer q f) }

-- what is told is that of outcomes in the order of their texts, none twice, each with a run from the start, and all of them where the list is called whole
pub record IsTold {V : Type 0} (k : Kind V) (v : View) (s : Start V) (most : ℕ) (o : Options) (q : Option Question) (t : Told) : Type 0 where
  pub found : Listing
  pub sound : AreShown k v s found.list
  pub distinct : AreDistinct found.list
  pub extent : Reaches k v s most found found.extent
  pub sorted : IsSortedByKey (λ (e : Shown). e.text) text_order found.list
  pub is : t ≡ told o found q
