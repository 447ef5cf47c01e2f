mod SplitLaws
