use Rattle.std.proofs.Common.{string_bytes}
use Rattle.dash_run.proofs.Words.{two_mapped, three_mapped, four_mapped, five_mapped, six_mapped}
use Rattle.dash_run.proofs.command_line.read_words.Goals as goal

pub returns-in-len2-clause-none : goal.returns-in-len2-clause-none
returns-in-len2-clause-none c =
    rw (two_mapped string_bytes c.args.words.now c.command-item.result c.image-item.result c.as_str.result.now c.as_str-in-len2.result.now c.in-len2.len_at_least c.in-len2.len_below c.command-item.is c.image-item.is c.as_str.ensures.value c.as_str-in-len2.ensures.value) c.read_alone.ensures.none

pub returns-in-len3-clause-none : goal.returns-in-len3-clause-none
returns-in-len3-clause-none c =
    rw (three_mapped string_bytes c.args.words.now c.command-item-then-words-lt4.result c.image-item-then-words-lt4.result c.topology-item.result c.as_str-in-len3.result.now c.as_str-in-len3-2.result.now c.as_str-in-len3-3.result.now c.in-len3.len_at_least c.in-len3.len_below c.command-item-then-words-lt4.is c.image-item-then-words-lt4.is c.topology-item.is c.as_str-in-len3.ensures.value c.as_str-in-len3-2.ensures.value c.as_str-in-len3-3.ensures.value) c.read_file.ensures.none

pub returns-in-len4-clause-none : goal.returns-in-len4-clause-none
returns-in-len4-clause-none c =
    rw (four_mapped string_bytes c.args.words.now c.command-item-then-words-lt5.result c.image-item-then-words-lt5.result c.topology-item-then-words-lt5.result c.flag-item.result c.as_str-in-len4.result.now c.as_str-in-len4-2.result.now c.as_str-in-len4-3.result.now c.as_str-in-len4-4.result.now c.in-len4.len_at_least c.in-len4.len_below c.command-item-then-words-lt5.is c.image-item-then-words-lt5.is c.topology-item-then-words-lt5.is c.flag-item.is c.as_str-in-len4.ensures.value c.as_str-in-len4-2.ensures.value c.as_str-in-len4-3.ensures.value c.as_str-in-len4-4.ensures.value) c.read_file_logged.ensures.none

pub returns-in-len5-clause-none : goal.returns-in-len5-clause-none
returns-in-len5-clause-none c =
    rw (five_mapped string_bytes c.args.words.now c.command-item-then-words-lt6.result c.image-item-then-words-lt6.result c.clusters-item.result c.harts-item.result c.budget-item.result c.as_str-in-len5.result.now c.as_str-in-len5-2.result.now c.as_str-in-len5-3.result.now c.as_str-in-len5-4.result.now c.as_str-in-len5-5.result.now c.in-len5.len_at_least c.in-len5.len_below c.command-item-then-words-lt6.is c.image-item-then-words-lt6.is c.clusters-item.is c.harts-item.is c.budget-item.is c.as_str-in-len5.ensures.value c.as_str-in-len5-2.ensures.value c.as_str-in-len5-3.ensures.value c.as_str-in-len5-4.ensures.value c.as_str-in-len5-5.ensures.value) c.read_sizes.ensures.none

pub returns-in-len6-clause-none : goal.returns-in-len6-clause-none
returns-in-len6-clause-none c =
    rw (six_mapped string_bytes c.args.words.now c.command-item-then-words-lt7.result c.image-item-then-words-lt7.result c.clusters-item-then-words-lt7.result c.harts-item-then-words-lt7.result c.budget-item-then-words-lt7.result c.flag-item-then-words-lt7.result c.as_str-in-len6.result.now c.as_str-in-len6-2.result.now c.as_str-in-len6-3.result.now c.as_str-in-len6-4.result.now c.as_str-in-len6-5.result.now c.as_str-in-len6-6.result.now c.in-len6.len_at_least c.in-len6.len_below c.command-item-then-words-lt7.is c.image-item-then-words-lt7.is c.clusters-item-then-words-lt7.is c.harts-item-then-words-lt7.is c.budget-item-then-words-lt7.is c.flag-item-then-words-lt7.is c.as_str-in-len6.ensures.value c.as_str-in-len6-2.ensures.value c.as_str-in-len6-3.ensures.value c.as_str-in-len6-4.ensures.value c.as_str-in-len6-5.ensures.value c.as_str-in-len6-6.ensures.value) c.read_sizes_logged.ensures.none
