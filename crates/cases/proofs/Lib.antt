mod Sum
